use Rattle.std.proofs.Common.{◌≡◌, ◌<◌, ℕ}
use Rattle.std.specs.Prelude.{Some, slice_get}
use Rattle.circularity_test.proofs.report.never_gets.Given as goal
use Rattle.contract_terms.specs.declared.pair.Mode.TheVariants.{Await}
use Rattle.contract_terms.specs.declared.pair.Pair.{Pair}

-- the pairs so far are `await`
abbrev pub invariant-loop-index : goal.invariant-loop-index
invariant-loop-index l = (index : ℕ) (pair : Pair) → index < l.index → slice_get l.pairs index ≡ Some pair
    → pair.mode ≡ Await
