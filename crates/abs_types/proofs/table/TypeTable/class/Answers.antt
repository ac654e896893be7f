use Rattle.abs_types.proofs.OwnNameLemmas.{number_is_own, named_by_number}
use Rattle.abs_types.specs.TypeShapes.{shape_type}
use Rattle.abs_types.proofs.table.TypeTable.class.Goals as goal

pub add-requires-clause-names : goal.add-requires-clause-names
add-requires-clause-names c =
    number_is_own c.args.self.now.program.now.symbols c.args.name c.number.result c.number.ensures.number

pub returns-clause-found : goal.returns-clause-found
unfolding shape_type
returns-clause-found c =
    rw (← named_by_number c.args.self.now.program.now.symbols c.args.name c.number.result c.number.ensures.number)
    c.add.ensures.found
