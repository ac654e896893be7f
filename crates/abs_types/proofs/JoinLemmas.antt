-- A join is the least type above two types. By cases on which of them fits the other: the greater one is the join, and
-- otherwise the joins of their parts decide.
use Rattle.std.proofs.Common.{◌≡◌, true, false, List, [], ◌∷◌, Option, Some, None, option_map, refl, sym, ap, ap₂, ◌∙◌, subst, ⊎_elim}
use Rattle.std.proofs.lemmas.Bool.{and_from, and_parts, cases_Bool}
use Rattle.std.proofs.lemmas.List.Elements.{All-nil, All-cons, All-head, All-tail}
use Rattle.std.proofs.lemmas.Option.{none-some, option_and_then_some, same_Some}
use Rattle.abs_tree.specs.Syntax.{DeclTree}
use Rattle.abs_types.specs.Joins.{greater_or, both_applied, join_of, join_all, IsLeastAbove, IsLeastAboveAll}
use Rattle.abs_types.specs.PlainTypes.{PlainType, PlainFut, PlainApplied}
use Rattle.abs_types.specs.Subtyping.{fits, NoneExtendsItself}
use Rattle.abs_types.proofs.SubtypingLemmas.{fits_reflexive, fits_transitive, fits_antisymmetric}

-- the join that the parts of two types give
abbrev pub join_of_parts : List DeclTree → PlainType → PlainType → Option PlainType
join_of_parts declarations (PlainFut one) (PlainFut other) = option_map PlainFut (join_of declarations one other)
join_of_parts declarations (PlainApplied head argument) (PlainApplied other_head other_argument) =
    both_applied (join_of declarations head other_head) (join_of declarations argument other_argument)
join_of_parts declarations one other = None

-- the join of two types is the greater one, or that of the parts
join_of_is : (declarations : List DeclTree) (one other : PlainType)
    → join_of declarations one other ≡ greater_or declarations one other (join_of_parts declarations one other)
unfolding join_of
join_of_is declarations (PlainFut one) (PlainFut other) = refl
join_of_is declarations (PlainApplied head argument) (PlainApplied other_head other_argument) = refl
join_of_is declarations one other = refl

-- if the first type fits the second one, the join is the second one
pub join_of_fitting : (declarations : List DeclTree) (one other : PlainType) → fits declarations one other ≡ true
    → join_of declarations one other ≡ Some other
join_of_fitting declarations one other there = rw (join_of_is declarations one other, there) refl

-- if only the second type fits the first one, the join is the first one
pub join_of_greater : (declarations : List DeclTree) (one other : PlainType) → fits declarations one other ≡ false
    → fits declarations other one ≡ true → join_of declarations one other ≡ Some one
join_of_greater declarations one other not_there back = rw (join_of_is declarations one other, not_there, back) refl

-- if neither fits the other, the parts decide
pub join_of_apart : (declarations : List DeclTree) (one other : PlainType) → fits declarations one other ≡ false
    → fits declarations other one ≡ false → join_of declarations one other ≡ join_of_parts declarations one other
join_of_apart declarations one other not_there not_back =
    rw (join_of_is declarations one other, not_there, not_back) refl

-- the cases: the first type fits the second one, or only the second one fits the first one, or neither fits the other
by_fitting : {goal : Type 0} (declarations : List DeclTree) (one other : PlainType)
    → (fits declarations one other ≡ true → goal)
    → (fits declarations one other ≡ false → fits declarations other one ≡ true → goal)
    → (fits declarations one other ≡ false → fits declarations other one ≡ false → goal) → goal
by_fitting declarations one other if_fits if_fitted if_apart = ⊎_elim if_fits
    (λ not_there. ⊎_elim (if_fitted not_there) (if_apart not_there) (cases_Bool (fits declarations other one)))
    (cases_Bool (fits declarations one other))

-- if the second type fits the first one, the join is the first one, also where the types are the same
pub join_of_fitted : (declarations : List DeclTree) (one other : PlainType) → NoneExtendsItself declarations
    → fits declarations other one ≡ true → join_of declarations one other ≡ Some one
join_of_fitted declarations one other none back = ⊎_elim
    (λ there. join_of_fitting declarations one other there
    ∙ ap Some (fits_antisymmetric declarations other one none back there))
    (λ not_there. join_of_greater declarations one other not_there back)
    (cases_Bool (fits declarations one other))

-- if a type fits another one, the latter is the least type above both
least_of_fitting : (declarations : List DeclTree) (one other : PlainType) → fits declarations one other ≡ true
    → IsLeastAbove declarations one other other
least_of_fitting declarations one other there = record {
  first = there;
  second = fits_reflexive declarations other;
  least_is = λ above one_fits other_fits. other_fits;
}

-- if a type is fitted by another one, it is the least type above both
least_of_fitted : (declarations : List DeclTree) (one other : PlainType) → fits declarations other one ≡ true
    → IsLeastAbove declarations one other one
least_of_fitted declarations one other back = record {
  first = fits_reflexive declarations one;
  second = back;
  least_is = λ above one_fits other_fits. one_fits;
}

-- a join is the least type above, if what the parts give is
least_by_parts : (declarations : List DeclTree) (one other joined : PlainType)
    → (join_of_parts declarations one other ≡ Some joined → IsLeastAbove declarations one other joined)
    → join_of declarations one other ≡ Some joined → IsLeastAbove declarations one other joined
least_by_parts declarations one other joined by_parts reported = by_fitting declarations one other
    (λ there. subst (IsLeastAbove declarations one other)
    (same_Some _ _ (sym (join_of_fitting declarations one other there) ∙ reported))
    (least_of_fitting declarations one other there))
    (λ not_there back. subst (IsLeastAbove declarations one other)
    (same_Some _ _ (sym (join_of_greater declarations one other not_there back) ∙ reported))
    (least_of_fitted declarations one other back))
    (λ not_there not_back. by_parts (sym (join_of_apart declarations one other not_there not_back) ∙ reported))

-- `Fut` of the least type above two types fits each type above `Fut` of them
least_above_futures : (declarations : List DeclTree) (one other least : PlainType)
    → IsLeastAbove declarations one other least
    → (above : PlainType) → fits declarations (PlainFut one) above ≡ true
    → fits declarations (PlainFut other) above ≡ true → fits declarations (PlainFut least) above ≡ true
unfolding fits
least_above_futures declarations one other least inner (PlainFut above) one_fits other_fits =
    inner.least_is above one_fits other_fits
least_above_futures declarations one other least inner above one_fits other_fits = one_fits

-- so it is the least type above `Fut` of them
futures_least : (declarations : List DeclTree) (one other joined : PlainType) (inner : Option PlainType)
    → ((least : PlainType) → inner ≡ Some least → IsLeastAbove declarations one other least)
    → option_map PlainFut inner ≡ Some joined → IsLeastAbove declarations (PlainFut one) (PlainFut other) joined
unfolding fits
futures_least declarations one other joined None by_inner reported = absurd (none-some joined reported)
futures_least declarations one other joined (Some least) by_inner reported =
    let found = by_inner least refl in
    subst (IsLeastAbove declarations (PlainFut one) (PlainFut other)) (same_Some _ _ reported)
    (record {
      first = found.first;
      second = found.second;
      least_is = least_above_futures declarations one other least found;
    })

-- applied data fits each type above two of the same data, if its head and its argument are least
least_above_applied : (declarations : List DeclTree)
    (head other_head argument other_argument least_head least_argument : PlainType)
    → IsLeastAbove declarations head other_head least_head
    → IsLeastAbove declarations argument other_argument least_argument
    → (above : PlainType) → fits declarations (PlainApplied head argument) above ≡ true
    → fits declarations (PlainApplied other_head other_argument) above ≡ true
    → fits declarations (PlainApplied least_head least_argument) above ≡ true
unfolding fits
least_above_applied declarations head other_head argument other_argument least_head least_argument of_heads of_arguments
    (PlainApplied above_head above_argument) one_fits other_fits =
    let one = and_parts (fits declarations head above_head) (fits declarations argument above_argument) one_fits in
    let other = and_parts (fits declarations other_head above_head) (fits declarations other_argument above_argument)
    other_fits in
    and_from (fits declarations least_head above_head) (fits declarations least_argument above_argument)
    (of_heads.least_is above_head one.0 other.0) (of_arguments.least_is above_argument one.1 other.1)
least_above_applied declarations head other_head argument other_argument least_head least_argument of_heads of_arguments
    above one_fits other_fits = one_fits

-- so it is the least type above them
applied_least : (declarations : List DeclTree) (head other_head argument other_argument joined : PlainType)
    (of_heads of_arguments : Option PlainType)
    → ((least : PlainType) → of_heads ≡ Some least → IsLeastAbove declarations head other_head least)
    → ((least : PlainType) → of_arguments ≡ Some least → IsLeastAbove declarations argument other_argument least)
    → both_applied of_heads of_arguments ≡ Some joined
    → IsLeastAbove declarations (PlainApplied head argument) (PlainApplied other_head other_argument) joined
unfolding fits
applied_least declarations head other_head argument other_argument joined (Some least_head) (Some least_argument)
    by_heads by_arguments reported =
    let found = by_heads least_head refl in
    let found_too = by_arguments least_argument refl in
    subst (IsLeastAbove declarations (PlainApplied head argument) (PlainApplied other_head other_argument))
    (same_Some _ _ reported)
    (record {
      first = and_from (fits declarations head least_head) (fits declarations argument least_argument)
          found.first found_too.first;
      second = and_from (fits declarations other_head least_head) (fits declarations other_argument least_argument)
          found.second found_too.second;
      least_is = least_above_applied declarations head other_head argument other_argument least_head least_argument
          found found_too;
    })
applied_least declarations head other_head argument other_argument joined of_heads of_arguments by_heads by_arguments
    reported = absurd (none-some joined reported)

-- a join is the least type above
pub join_of_least : (declarations : List DeclTree) (one other joined : PlainType)
    → join_of declarations one other ≡ Some joined → IsLeastAbove declarations one other joined
join_of_least declarations (PlainFut one) (PlainFut other) joined reported =
    least_by_parts declarations (PlainFut one) (PlainFut other) joined
    (futures_least declarations one other joined (join_of declarations one other)
    (join_of_least declarations one other)) reported
join_of_least declarations (PlainApplied head argument) (PlainApplied other_head other_argument) joined reported =
    least_by_parts declarations (PlainApplied head argument) (PlainApplied other_head other_argument) joined
    (applied_least declarations head other_head argument other_argument joined
    (join_of declarations head other_head) (join_of declarations argument other_argument)
    (join_of_least declarations head other_head) (join_of_least declarations argument other_argument))
    reported
join_of_least declarations one other joined reported =
    least_by_parts declarations one other joined (λ parts. absurd (none-some joined parts)) reported

-- the least type above the join of two types and above others is the least one above all of them
all_least_after : (declarations : List DeclTree) (one other between least : PlainType) (others : List PlainType)
    → IsLeastAbove declarations one other between → IsLeastAboveAll declarations (between ∷ others) least
    → IsLeastAboveAll declarations (one ∷ other ∷ others) least
all_least_after declarations one other between least others of_two of_all =
    let below : PlainType → Type 0 = λ type. fits declarations type least ≡ true in
    let inner = All-head below between others of_all.above_all in
    record {
      above_all = All-cons below one (other ∷ others) (fits_transitive declarations one between least of_two.first inner)
          (All-cons below other others (fits_transitive declarations other between least of_two.second inner)
          (All-tail below between others of_all.above_all));
      least_is = λ above fit.
          let under : PlainType → Type 0 = λ type. fits declarations type above ≡ true in
          let rest = All-tail under one (other ∷ others) fit in
          of_all.least_is above (All-cons under between others
          (of_two.least_is above (All-head under one (other ∷ others) fit) (All-head under other others rest))
          (All-tail under other others rest));
    }

-- so the join of several types is the least type above all of them
pub join_all_least : (declarations : List DeclTree) (one joined : PlainType) (others : List PlainType)
    → join_all declarations one others ≡ Some joined → IsLeastAboveAll declarations (one ∷ others) joined
join_all_least declarations one joined [] reported =
    subst (IsLeastAboveAll declarations (one ∷ [])) (same_Some _ _ reported)
    (record {
      above_all = All-cons (λ type. fits declarations type one ≡ true) one [] (fits_reflexive declarations one)
          (All-nil (λ type. fits declarations type one ≡ true));
      least_is = λ above all_fit. All-head (λ type. fits declarations type above ≡ true) one [] all_fit;
    })
join_all_least declarations one joined (other ∷ others) reported =
    option_and_then_some (λ between. join_all declarations between others) (join_of declarations one other) joined reported
    (λ between first more. all_least_after declarations one other between joined others
    (join_of_least declarations one other between first)
    (join_all_least declarations between joined others more))

-- two joins in either order are the same, if those of the parts are
symmetric_by_parts : (declarations : List DeclTree) (one other : PlainType) → NoneExtendsItself declarations
    → join_of_parts declarations one other ≡ join_of_parts declarations other one
    → join_of declarations one other ≡ join_of declarations other one
symmetric_by_parts declarations one other none parts = by_fitting declarations one other
    (λ there. join_of_fitting declarations one other there ∙ sym (join_of_fitted declarations other one none there))
    (λ not_there back. join_of_greater declarations one other not_there back
    ∙ sym (join_of_fitting declarations other one back))
    (λ not_there not_back. join_of_apart declarations one other not_there not_back ∙ parts
    ∙ sym (join_of_apart declarations other one not_back not_there))

-- a join does not depend on the order; the clause of `one (PlainFut other)` makes the last one split both types
pub join_of_symmetric : (declarations : List DeclTree) (one other : PlainType) → NoneExtendsItself declarations
    → join_of declarations one other ≡ join_of declarations other one
join_of_symmetric declarations (PlainFut one) (PlainFut other) none =
    symmetric_by_parts declarations (PlainFut one) (PlainFut other) none
    (ap (option_map PlainFut) (join_of_symmetric declarations one other none))
join_of_symmetric declarations (PlainApplied head argument) (PlainApplied other_head other_argument) none =
    symmetric_by_parts declarations (PlainApplied head argument) (PlainApplied other_head other_argument) none
    (ap₂ both_applied (join_of_symmetric declarations head other_head none)
    (join_of_symmetric declarations argument other_argument none))
join_of_symmetric declarations one (PlainFut other) none =
    symmetric_by_parts declarations one (PlainFut other) none refl
join_of_symmetric declarations one other none = symmetric_by_parts declarations one other none refl

-- inside data and `Fut` the joins of the arguments alone decide
pub join_of_applied : (declarations : List DeclTree) (head other_head argument other_argument : PlainType)
    → NoneExtendsItself declarations
    → join_of declarations (PlainApplied head argument) (PlainApplied other_head other_argument)
    ≡ both_applied (join_of declarations head other_head) (join_of declarations argument other_argument)
unfolding fits
join_of_applied declarations head other_head argument other_argument none =
    let one = PlainApplied head argument in
    let other = PlainApplied other_head other_argument in
    by_fitting declarations one other
    (λ there.
    let both = and_parts (fits declarations head other_head) (fits declarations argument other_argument) there in
    join_of_fitting declarations one other there
    ∙ sym (ap₂ both_applied (join_of_fitting declarations head other_head both.0)
    (join_of_fitting declarations argument other_argument both.1)))
    (λ not_there back.
    let both = and_parts (fits declarations other_head head) (fits declarations other_argument argument) back in
    join_of_greater declarations one other not_there back
    ∙ sym (ap₂ both_applied (join_of_fitted declarations head other_head none both.0)
    (join_of_fitted declarations argument other_argument none both.1)))
    (join_of_apart declarations one other)

pub join_of_futures : (declarations : List DeclTree) (one other : PlainType) → NoneExtendsItself declarations
    → join_of declarations (PlainFut one) (PlainFut other)
    ≡ option_map PlainFut (join_of declarations one other)
unfolding fits
join_of_futures declarations one other none = by_fitting declarations (PlainFut one) (PlainFut other)
    (λ there. join_of_fitting declarations (PlainFut one) (PlainFut other) there
    ∙ sym (ap (option_map PlainFut) (join_of_fitting declarations one other there)))
    (λ not_there back. join_of_greater declarations (PlainFut one) (PlainFut other) not_there back
    ∙ sym (ap (option_map PlainFut) (join_of_fitted declarations one other none back)))
    (join_of_apart declarations (PlainFut one) (PlainFut other))
