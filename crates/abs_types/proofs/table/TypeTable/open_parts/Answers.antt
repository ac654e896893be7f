use Rattle.abs_types.proofs.HeadLemmas.{has_parts, not_walked}
use Rattle.abs_types.proofs.table.TypeTable.open_parts.Goals as goal

pub returns-in-Applied-clause-parts : goal.returns-in-Applied-clause-parts
returns-in-Applied-clause-parts c =
    has_parts c.args.self.now.program.now.symbols c.in-Applied.is c.shape.ensures.is c.shape.ensures.parts

pub returns-in_default-clause-parts : goal.returns-in_default-clause-parts
returns-in_default-clause-parts c =
    not_walked c.args.self.now.program.now.symbols _ c.in_default.not-Applied c.shape.ensures.is
