use Rattle.std.specs.Prelude.{All}
use Rattle.abs_types.specs.TypeParts.{ArePairAmong}
use Rattle.abs_types.specs.TypeTables.{types_in}
use Rattle.abs_types.proofs.table.TypeTable.add_parts.Given as goal

-- the pair whose parts are next, and all that wait, are of the table
abbrev pub invariant-loop-parts : goal.invariant-loop-parts
invariant-loop-parts l =
    ArePairAmong (types_in l.fn.self) l.whole × All (ArePairAmong (types_in l.fn.self)) l.waiting.items

-- heads have smaller indices
abbrev pub decreases-loop-parts : goal.decreases-loop-parts
decreases-loop-parts l = l.whole.one.0
