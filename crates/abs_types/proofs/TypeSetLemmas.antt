-- An equation of types has one proof at most, since a test tells equal types.
use mathlib.Core.HLevel.{hedberg}
use Rattle.std.proofs.Common.{◌≡◌, Bool, true, false, [], refl, sym, subst, ◌∙◌, true≢false}
use Rattle.std.proofs.lemmas.List.Elements.{All-nil}
use Rattle.abs_types.proofs.SubtypingLemmas.{fits_reflexive, fits_antisymmetric}
use Rattle.abs_types.specs.PlainTypes.{PlainType}
use Rattle.abs_types.specs.Subtyping.{fits, NoneExtendsItself}

-- no interface of no declarations extends itself
none_of_none : NoneExtendsItself []
none_of_none = All-nil (λ (test : Bool). test ≡ false)

-- equal types fit each other
fits_equal : (one other : PlainType) → one ≡ other → fits [] one other ≡ true
fits_equal one other same = subst (λ (type : PlainType). fits [] one type ≡ true) same (fits_reflexive [] one)

-- whether two types are equal, by whether each fits the other
decide : (one other : PlainType) (there back : Bool) → fits [] one other ≡ there → fits [] other one ≡ back
    → Dec (one ≡ other)
decide one other true true first second = yes (fits_antisymmetric [] one other none_of_none first second)
decide one other true false first second =
    no (λ same. true≢false (sym (fits_equal other one (sym same)) ∙ second))
decide one other false back first second = no (λ same. true≢false (sym (fits_equal one other same) ∙ first))

-- types are a set
pub type_set : IsSet PlainType
type_set = hedberg (λ one other. decide one other (fits [] one other) (fits [] other one) refl refl)
