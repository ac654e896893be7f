-- The comparison of what expressions can read is true exactly where it is the same.
--
--   `scope_equal-Decides`      the own object, the values in the slots, and those of the fields
use Rattle.std.proofs.Common.{◌≡◌, ℕ, nat_eq, ◌&&◌, List, [], Option, Some, None, Decides, refl, ap}
use Rattle.std.proofs.lemmas.Bool.Decides.{Decides-and, Decides-eqb}
use Rattle.std.specs.Cmp.Lexicographic.{pointwise, pointwise_decides}
use Rattle.std.specs.Option.{option_eq}
use Rattle.abs_values.proofs.SameValueLemmas.{same_value-Decides}
use Rattle.abs_values.specs.Scopes.{Scope}
use Rattle.abs_values.specs.ValueTrees.{ValueTree, same_value}
use Rattle.abs_program.proofs.EqualNameLemmas.{decided}

-- lists of values
values_equal-Decides : (ones others : List ValueTree) → Decides (pointwise same_value ones others) (ones ≡ others)
values_equal-Decides = pointwise_decides same_value-Decides

-- the own object
object_equal-Decides : (one other : Option ℕ) → Decides (option_eq nat_eq one other) (one ≡ other)
object_equal-Decides None None = (λ reported. refl, λ same. refl)
object_equal-Decides None (Some other) = (λ reported. absurd (cc), λ same. absurd (cc))
object_equal-Decides (Some one) None = (λ reported. absurd (cc), λ same. absurd (cc))
object_equal-Decides (Some one) (Some other) =
    decided refl (Decides-eqb one other) (λ same. ap Some same) (λ same. cc)

-- what expressions can read, where no variable is bound
pub scope_equal-Decides : (this other : Option ℕ) (slots other_slots fields other_fields : List ValueTree)
    → Decides (option_eq nat_eq this other && (pointwise same_value slots other_slots
    && pointwise same_value fields other_fields))
    (◌≡◌ {A = Scope} (record { this = this; slots = slots; fields = fields; bound = [] })
    (record { this = other; slots = other_slots; fields = other_fields; bound = [] }))
scope_equal-Decides this other slots other_slots fields other_fields =
    decided refl
    (Decides-and _ _ (object_equal-Decides this other)
    (Decides-and _ _ (values_equal-Decides slots other_slots) (values_equal-Decides fields other_fields)))
    (λ same i. record { this = same.0 i; slots = same.1.0 i; fields = same.1.1 i; bound = [] })
    (λ same. (
      ap (λ (scope : Scope). scope.this) same,
      (ap (λ (scope : Scope). scope.slots) same, ap (λ (scope : Scope). scope.fields) same),
    ))
