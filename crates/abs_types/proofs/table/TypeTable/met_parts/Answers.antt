use Rattle.abs_types.proofs.HeadLemmas.{has_parts, not_both_walked}
use Rattle.abs_types.specs.TypeShapes.{type_at}
use Rattle.abs_types.specs.TypeTables.{types_in}
use Rattle.abs_types.proofs.table.TypeTable.met_parts.Goals as goal

pub returns-in_default : goal.returns-in_default
returns-in_default c =
    not_both_walked (type_at (types_in c.args.self.now) c.args.pair.one) c.args.self.now.program.now.symbols _
    c.in_default.not-Applied c.shape.ensures.is

pub returns : goal.returns
returns c = record {
  one = c.in_ok-takes.ensures.parts;
  other = has_parts c.args.self.now.program.now.symbols c.in-Applied.is c.shape.ensures.is c.shape.ensures.parts;
  walked = c.in_ok-takes.ensures.open_type;
}
