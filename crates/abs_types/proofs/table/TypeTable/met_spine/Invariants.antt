use Rattle.abs_types.specs.Heads.{AreMetSpines}
use Rattle.abs_types.specs.TypeTables.{declarations_of, types_in}
use Rattle.abs_types.proofs.table.TypeTable.met_spine.Given as goal

abbrev pub invariant-loop-parts : goal.invariant-loop-parts
invariant-loop-parts l =
    AreMetSpines (declarations_of l.self) (types_in l.self) l.fn.pair l.heads l.arguments.items

abbrev pub decreases-loop-parts : goal.decreases-loop-parts
decreases-loop-parts l = l.heads.one.0
