use Rattle.abs_types.specs.Heads.{IsSpine}
use Rattle.abs_types.specs.TypeTables.{types_in}
use Rattle.abs_types.proofs.table.TypeTable.open_spine.Given as goal

abbrev pub invariant-loop-parts : goal.invariant-loop-parts
invariant-loop-parts l = IsSpine (types_in l.self) l.fn.index l.head l.arguments.items

abbrev pub decreases-loop-parts : goal.decreases-loop-parts
decreases-loop-parts l = l.head.0
