-- The test whether two values are the same is true exactly where they are.
--
--   `same_value-true`, `same_parts-true`   where the test is true the values, or the parts, are the same
--   `same_value-self`, `same_parts-self`   of a value and itself, or of parts and themselves, the test is true
--   `same_value-Decides`                   both in one
use Rattle.std.proofs.Common.{◌≡◌, true, nat_eq, Decides, refl, ap, ap₂, subst}
use Rattle.std.proofs.lemmas.Bool.{and_parts, and_from}
use Rattle.std.proofs.lemmas.Bool.Decides.{Decides-eqb, Decides-int_eq}
use Rattle.std.proofs.lemmas.Slice.Eq.{bytes_eq-Decides}
use Rattle.abs_values.specs.ValueTrees.{ValueTree, IntValue, StringValue, BuiltValue, ObjectValue, FutureValue, NullValue, ValueTrees, NoPart, NextPart, same_value, same_parts}

mutual
  unfolding same_value same_parts

  -- values of which the test is true are the same
  pub same_value-true : (one other : ValueTree) → same_value one other ≡ true → one ≡ other
  same_value-true (IntValue one) (IntValue other) reported = ap IntValue ((Decides-int_eq one other).0 reported)
  same_value-true (StringValue one) (StringValue other) reported = ap StringValue ((bytes_eq-Decides one other).0 reported)
  same_value-true (BuiltValue one parts) (BuiltValue other others) reported =
      let both = and_parts (nat_eq one other) (same_parts parts others) reported in
      ap₂ BuiltValue ((Decides-eqb one other).0 both.0) (same_parts-true parts others both.1)
  same_value-true (ObjectValue one) (ObjectValue other) reported = ap ObjectValue ((Decides-eqb one other).0 reported)
  same_value-true (FutureValue one) (FutureValue other) reported = ap FutureValue ((Decides-eqb one other).0 reported)
  same_value-true NullValue NullValue reported = refl
  same_value-true one other reported = absurd (cc)

  -- parts of which the test is true are the same
  pub same_parts-true : (parts others : ValueTrees) → same_parts parts others ≡ true → parts ≡ others
  same_parts-true NoPart NoPart reported = refl
  same_parts-true (NextPart first others) (NextPart second more) reported =
      let both = and_parts (same_value first second) (same_parts others more) reported in
      ap₂ NextPart (same_value-true first second both.0) (same_parts-true others more both.1)
  same_parts-true parts others reported = absurd (cc)

mutual
  unfolding same_value same_parts

  -- of a value and itself the test is true
  pub same_value-self : (value : ValueTree) → same_value value value ≡ true
  same_value-self (IntValue number) = (Decides-int_eq number number).1 refl
  same_value-self (StringValue string) = (bytes_eq-Decides string string).1 refl
  same_value-self (BuiltValue constructor parts) =
      and_from (nat_eq constructor constructor) (same_parts parts parts) ((Decides-eqb constructor constructor).1 refl)
      (same_parts-self parts)
  same_value-self (ObjectValue object) = (Decides-eqb object object).1 refl
  same_value-self (FutureValue task) = (Decides-eqb task task).1 refl
  same_value-self NullValue = refl

  -- of parts and themselves the test is true
  pub same_parts-self : (parts : ValueTrees) → same_parts parts parts ≡ true
  same_parts-self NoPart = refl
  same_parts-self (NextPart first others) =
      and_from (same_value first first) (same_parts others others) (same_value-self first) (same_parts-self others)

-- the test is true exactly where the values are the same
pub same_value-Decides : (one other : ValueTree) → Decides (same_value one other) (one ≡ other)
same_value-Decides one other = (
  same_value-true one other,
  λ same. subst (λ (value : ValueTree). same_value one value ≡ true) same (same_value-self one),
)
