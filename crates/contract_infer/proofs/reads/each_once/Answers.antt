use Rattle.std.proofs.Common.{◌↔◌, ℕ, List, Contains, eqb}
use Rattle.std.proofs.lemmas.List.Filters.{dedup_is}
use Rattle.std.proofs.lemmas.List.Kept.{Contains-dedup_nat, Contains-from_dedup}
use Rattle.std.proofs.lemmas.List.Sorted.{Contains-permutation, IsPermutation-sym}
use Rattle.std.proofs.lemmas.Map.Keys.{IsStrictlyIncreasing-dedup}
use Rattle.std.specs.List.{dedup}
use Rattle.std.specs.List.Sorted.{IsPermutation}
use Rattle.contract_infer.proofs.reads.each_once.Goals as goal

-- the numbers of a list in another order, without repetitions, are those of the list
Contains-dedup_permutation : (numbers sorted : List ℕ) (number : ℕ) → IsPermutation numbers sorted
    → (Contains (dedup eqb sorted) number ↔ Contains numbers number)
Contains-dedup_permutation numbers sorted number same = (
  λ there. Contains-permutation sorted numbers number (IsPermutation-sym numbers sorted same)
      (Contains-from_dedup eqb sorted number there),
  λ there. Contains-dedup_nat sorted number (Contains-permutation numbers sorted number same there),
)

pub returns-clause-same : goal.returns-clause-same
returns-clause-same c number =
    let sorted = c.sort_unstable.new.self.items in
    rw (dedup_is eqb sorted c.dedup.new.self.items c.dedup.ensures.filtered)
    (Contains-dedup_permutation c.args.numbers.items sorted number c.sort_unstable.ensures.permutation)

pub returns-clause-rises : goal.returns-clause-rises
returns-clause-rises c =
    let sorted = c.sort_unstable.new.self.items in
    rw (dedup_is eqb sorted c.dedup.new.self.items c.dedup.ensures.filtered)
    (IsStrictlyIncreasing-dedup sorted c.sort_unstable.ensures.sorted)
