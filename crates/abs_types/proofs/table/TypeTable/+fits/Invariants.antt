use Rattle.std.proofs.Common.{◌≡◌, ◌≤◌}
use Rattle.abs_types.specs.Subtyping.{fits}
use Rattle.abs_types.specs.TypeParts.{ArePairAmong}
use Rattle.abs_types.specs.TypeShapes.{type_at}
use Rattle.abs_types.specs.TypeTables.{declarations_of, types_in}
use Rattle.abs_types.proofs.table.TypeTable.+fits.Given as goal

-- parts have smaller indices
abbrev pub decreases-fits : goal.decreases-fits
decreases-fits l = l.one.0

-- the pair fits exactly if the two types do
abbrev pub invariant-loop-pair : goal.invariant-loop-pair
invariant-loop-pair l = record {
  among : ArePairAmong (types_in l.self) l.pair;
  below : l.pair.one.0 ≤ l.fn.one.0;
  is : fits (declarations_of l.self) (type_at (types_in l.self) l.fn.one) (type_at (types_in l.self) l.fn.other)
      ≡ fits (declarations_of l.self) (type_at (types_in l.self) l.pair.one) (type_at (types_in l.self) l.pair.other);
}

abbrev pub decreases-loop-pair : goal.decreases-loop-pair
decreases-loop-pair l = l.pair.one.0
