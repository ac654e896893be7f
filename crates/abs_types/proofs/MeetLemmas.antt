-- What type parameters meet, where a type is not applied with a type parameter in it.
--
--   `past_met`, `joined_met`                           a type parameter that there is not, and one that takes a join
--   `closed_met`                                       a type without type parameters
--   `future_bottom`, `future_future`, `future_other`   `Fut` with a type parameter in it
--   `open_bottom`, `open_other`                        applied data with a type parameter in it
use Rattle.std.proofs.Common.{◌≡◌, ℕ, ◌<◌, ◌≤◌, Bool, true, false, List, Option, Some, None, All, refl, sym, ap, ◌∙◌, get_or, length, set, arith}
use Rattle.std.specs.Prelude.{option_map}
use Rattle.std.proofs.lemmas.List.{get_or_past, get_or-map, map-set, length-map}
use Rattle.std.proofs.Math.Seq.{set_out}
use Rattle.std.proofs.lemmas.Bool.{false≢true}
use Rattle.abs_tree.specs.Syntax.{Name, DeclTree}
use Rattle.abs_types.proofs.JoinLemmas.{join_of_fitting}
use Rattle.abs_types.proofs.KeepLemmas.{types_at_kept}
use Rattle.abs_types.proofs.OpenLemmas.{open_cases}
use Rattle.abs_types.specs.Applications.{meet, met_if_fits}
use Rattle.abs_types.specs.Heads.{are_walked}
use Rattle.abs_types.specs.Joins.{join_of}
use Rattle.abs_types.specs.PlainTypes.{PlainType, PlainBottom, PlainFut, PlainApplied, PlainParameter}
use Rattle.abs_types.specs.Schemes.{has_parameter}
use Rattle.abs_types.specs.Subtyping.{fits}
use Rattle.abs_types.specs.TypeShapes.{shape_type, type_at, types_at, IsAmong}
use Rattle.abs_types.specs.TypeTables.{met_if, types_in, Keeps}
use Rattle.abs_types.specs.declared.table.TypeTable.{TypeTable}
use Rattle.abs_types.specs.declared.table.shape.Shape.{Shape}
use Rattle.abs_types.specs.declared.table.shape.Shape.TheVariants as shape
use Rattle.abs_types.specs.declared.table.shape.TypeIndex.{TypeIndex}

-- the type of no value has the join with a type that this type is
join_of_bottom : (declarations : List DeclTree) (given : PlainType)
    → join_of declarations PlainBottom given ≡ Some given
unfolding fits
join_of_bottom declarations given = join_of_fitting declarations PlainBottom given refl

-- a type parameter that there is not takes nothing
past_parameter : (declarations : List DeclTree) (index : ℕ) (given : PlainType) (met : List PlainType)
    → length met ≤ index → Some met ≡ meet declarations (PlainParameter index) given met
unfolding meet
past_parameter declarations index given met past =
    rw (get_or_past met index PlainBottom past, join_of_bottom declarations given)
    (ap Some (sym (set_out met index given past)))

-- the same in a table
pub past_met : (declarations : List DeclTree) (types : List PlainType) (index : ℕ) (given : PlainType)
    (met : List TypeIndex) → length met ≤ index
    → Some (types_at types met) ≡ meet declarations (PlainParameter index) given (types_at types met)
past_met declarations types index given met past =
    past_parameter declarations index given (types_at types met) (omega (arith, length-map met (type_at types)))

-- a type parameter takes the join of what it has met with what is given, if there is one
pub joined_met : {before now : TypeTable} (found : Option TypeIndex) (declarations : List DeclTree) (index : ℕ)
    (given : PlainType) (old : TypeIndex) (met : List TypeIndex) → Keeps before now
    → All (IsAmong (types_in before)) met → index < length met → old ≡ get_or met index old
    → option_map (type_at (types_in now)) found ≡ join_of declarations (type_at (types_in before) old) given
    → option_map (λ (joined : TypeIndex). types_at (types_in now) (set met index joined)) found
    ≡ meet declarations (PlainParameter index) given (types_at (types_in before) met)
unfolding meet
joined_met {before} {now} found declarations index given old met keeps among below is joined =
    let earlier = types_at (types_in before) met in
    sym (ap (λ (type : PlainType).
    option_map (λ (more : PlainType). set earlier index more) (join_of declarations type given))
    (get_or-map (type_at (types_in before)) met index old PlainBottom below
    ∙ ap (type_at (types_in before)) (sym is))
    ∙ (ap (option_map (λ (more : PlainType). set earlier index more)) (sym joined)
    ∙ taken found))
  where
    taken : (found : Option TypeIndex)
        → option_map (λ (more : PlainType). set (types_at (types_in before) met) index more)
        (option_map (type_at (types_in now)) found)
        ≡ option_map (λ (joined : TypeIndex). types_at (types_in now) (set met index joined)) found
    taken None = refl
    taken (Some joined) = ap Some (sym (map-set (type_at (types_in now)) met index joined
        ∙ ap (λ (types : List PlainType). set types index (type_at (types_in now) joined))
        (types_at_kept met keeps among)))

-- a type without type parameters asks that what is given fits it
closed_meet : (declarations : List DeclTree) (takes given : PlainType) (met : List PlainType)
    → has_parameter takes ≡ false → met_if_fits declarations takes given met ≡ meet declarations takes given met
unfolding meet
closed_meet declarations (PlainParameter index) given met none = cc
closed_meet declarations (PlainFut value) given met none = rw none refl
closed_meet declarations (PlainApplied head argument) given met none = rw none refl
closed_meet declarations takes given met none = refl

-- so it does by a test of that
pub closed_met : {could : Bool} (declarations : List DeclTree) (takes given : PlainType) (met : List PlainType)
    → has_parameter takes ≡ false → could ≡ fits declarations given takes
    → met_if could met ≡ meet declarations takes given met
closed_met {could} declarations takes given met none reported =
    ap (λ (test : Bool). met_if test met) reported ∙ closed_meet declarations takes given met none

-- `Fut` with a type parameter in it is met by the type of no value
pub future_bottom : (declarations : List DeclTree) {takes given : PlainType} (value : PlainType) (met : List PlainType)
    → takes ≡ PlainFut value → given ≡ PlainBottom → has_parameter takes ≡ true
    → Some met ≡ meet declarations takes given met
unfolding meet
future_bottom declarations value met is given_is inside =
    let inside_value = sym (ap has_parameter is) ∙ inside in rw (is, given_is, inside_value) refl

-- it meets `Fut` as its value does
pub future_future : (declarations : List DeclTree) {takes given : PlainType} (value inner : PlainType)
    (met : List PlainType) → takes ≡ PlainFut value → given ≡ PlainFut inner → has_parameter takes ≡ true
    → meet declarations value inner met ≡ meet declarations takes given met
unfolding meet
future_future declarations value inner met is given_is inside =
    let inside_value = sym (ap has_parameter is) ∙ inside in rw (is, given_is, inside_value) refl

-- it cannot be met by another type
future_none : (declarations : List DeclTree) (value given : PlainType) (met : List PlainType)
    → has_parameter value ≡ true → (given ≡ PlainBottom → ⊥) → ((inner : PlainType) → given ≡ PlainFut inner → ⊥)
    → None ≡ meet declarations (PlainFut value) given met
unfolding meet
-- it cannot be met by another type
future_none declarations value PlainBottom met inside not_bottom not_fut = absurd (not_bottom refl)
-- it cannot be met by another type
future_none declarations value (PlainFut inner) met inside not_bottom not_fut = absurd (not_fut inner refl)
-- it cannot be met by another type
future_none declarations value given met inside not_bottom not_fut = rw inside refl

-- so no other type can be given for it
pub future_other : (declarations : List DeclTree) {takes : PlainType} (value given : PlainType) (met : List PlainType)
    → takes ≡ PlainFut value → (given ≡ PlainBottom → ⊥) → ((inner : PlainType) → given ≡ PlainFut inner → ⊥)
    → has_parameter takes ≡ true → None ≡ meet declarations takes given met
future_other declarations value given met is not_bottom not_fut inside =
    rw is (future_none declarations value given met (sym (ap has_parameter is) ∙ inside) not_bottom not_fut)

-- applied data with a type parameter in it is met by the type of no value
applied_bottom : (declarations : List DeclTree) (given : PlainType) (met : List PlainType) → given ≡ PlainBottom
    → (head argument : PlainType) → has_parameter (PlainApplied head argument) ≡ true
    → Some met ≡ meet declarations (PlainApplied head argument) given met
unfolding meet
applied_bottom declarations given met is head argument inside = rw (is, inside) refl

-- so is a type with a type parameter in it that is neither that parameter nor `Fut`
pub open_bottom : (declarations : List DeclTree) (names : List Name) (types : List PlainType) {takes given : PlainType}
    {found : Shape} (met : List PlainType) → ((inner : TypeIndex) → found ≡ shape.Fut inner → ⊥)
    → ((index : ℕ) → found ≡ shape.Parameter index → ⊥) → takes ≡ shape_type names types found
    → has_parameter takes ≡ true → given ≡ PlainBottom → Some met ≡ meet declarations takes given met
open_bottom declarations names types {takes} {given} met not_fut not_parameter stands inside is =
    open_cases (λ (one : PlainType). has_parameter one ≡ true → Some met ≡ meet declarations one given met)
    (applied_bottom declarations given met is) names types not_fut not_parameter stands inside inside

-- applied data with a type parameter in it cannot be met by another type that is not applied
applied_none : (declarations : List DeclTree) (given : PlainType) (met : List PlainType) → (given ≡ PlainBottom → ⊥)
    → (head argument : PlainType) → has_parameter (PlainApplied head argument) ≡ true
    → are_walked (PlainApplied head argument) given ≡ false
    → None ≡ meet declarations (PlainApplied head argument) given met
unfolding meet
-- applied data with a type parameter in it cannot be met by another type that is not applied
applied_none declarations PlainBottom met not_bottom head argument inside apart = absurd (not_bottom refl)
-- applied data with a type parameter in it cannot be met by another type that is not applied
applied_none declarations (PlainApplied given_head given_argument) met not_bottom head argument inside apart =
    absurd (false≢true (sym apart ∙ inside))
-- applied data with a type parameter in it cannot be met by another type that is not applied
applied_none declarations given met not_bottom head argument inside apart = rw inside refl

-- nor can a type with a type parameter in it that is neither that parameter nor `Fut`
pub open_other : (declarations : List DeclTree) (names : List Name) (types : List PlainType) {takes : PlainType}
    {found : Shape} (given : PlainType) (met : List PlainType) → ((inner : TypeIndex) → found ≡ shape.Fut inner → ⊥)
    → ((index : ℕ) → found ≡ shape.Parameter index → ⊥) → takes ≡ shape_type names types found
    → has_parameter takes ≡ true → (given ≡ PlainBottom → ⊥) → are_walked takes given ≡ false
    → None ≡ meet declarations takes given met
open_other declarations names types {takes} given met not_fut not_parameter stands inside not_bottom apart =
    open_cases
    (λ (one : PlainType). has_parameter one ≡ true → are_walked one given ≡ false
    → None ≡ meet declarations one given met)
    (applied_none declarations given met not_bottom) names types not_fut not_parameter stands inside inside apart
