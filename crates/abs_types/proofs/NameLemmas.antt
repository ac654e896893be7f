-- Names are compared by their numbers.
use Rattle.std.proofs.Common.{◌≡◌, ℕ, List, nat_eq, arith}
use Rattle.std.specs.Str.{bytes_eq}
use Rattle.std.proofs.lemmas.Bool.Decides.{Decides-eqb}
use Rattle.std.proofs.lemmas.Slice.Eq.{bytes_eq-Decides}
use Rattle.abs_tree.proofs.NumberLemmas.{numbers_tell_names}
use Rattle.abs_tree.specs.Names.{name_of, number_of_name}
use Rattle.abs_tree.specs.declared.symbol.Symbol.{Symbol}

-- the numbers of two names are equal exactly if the names are
pub same_numbers : {number other_number : ℕ} (names : List (List ℕ)) (one other : Symbol)
    → number ≡ number_of_name names (name_of names one) → other_number ≡ number_of_name names (name_of names other)
    → nat_eq number other_number ≡ bytes_eq (name_of names one) (name_of names other)
same_numbers {number} {other_number} names one other is other_is =
    grind (
      arith,
      Decides-eqb number other_number,
      bytes_eq-Decides (name_of names one) (name_of names other),
      numbers_tell_names names one other,
    )
