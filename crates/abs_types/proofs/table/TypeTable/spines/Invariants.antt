use Rattle.abs_types.specs.TypeParts.{AreSpines}
use Rattle.abs_types.specs.TypeTables.{declarations_of, types_in}
use Rattle.abs_types.proofs.table.TypeTable.spines.Given as goal

abbrev pub invariant-loop-next : goal.invariant-loop-next
invariant-loop-next l =
    AreSpines (declarations_of l.self) (types_in l.self) l.fn.heads l.fn.arguments l.innermost l.all.items

abbrev pub decreases-loop-next : goal.decreases-loop-next
decreases-loop-next l = l.innermost.one.0
