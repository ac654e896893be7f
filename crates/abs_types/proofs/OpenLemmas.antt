-- What the shape of a type says of it, where a type parameter may be in it.
--
--   `parameter_type`, `future_type`, `bottom_type`     the type of a shape
--   `not_bottom`, `not_future`                         a type of another shape
--   `open_cases`                                       a type with a type parameter in it is that one, or `Fut`, or
--                                                      applied
use Rattle.std.proofs.Common.{◌≡◌, ℕ, true, List, refl, sym, ap, ◌∙◌, subst}
use Rattle.std.proofs.lemmas.Bool.{false≢true}
use Rattle.abs_tree.specs.Syntax.{Name}
use Rattle.abs_types.specs.PlainTypes.{PlainType, PlainBottom, PlainFut, PlainApplied, PlainParameter}
use Rattle.abs_types.specs.Schemes.{has_parameter}
use Rattle.abs_types.specs.TypeShapes.{shape_type, type_at}
use Rattle.abs_types.specs.declared.table.shape.Shape.{Shape}
use Rattle.abs_types.specs.declared.table.shape.Shape.TheVariants as shape
use Rattle.abs_types.specs.declared.table.shape.TypeIndex.{TypeIndex}

-- the shape of a type parameter
pub parameter_type : (names : List Name) (types : List PlainType) {one : PlainType} {index : ℕ} {found : Shape}
    → found ≡ shape.Parameter index → one ≡ shape_type names types found → one ≡ PlainParameter index
unfolding shape_type
parameter_type names types is stands = stands ∙ ap (shape_type names types) is

-- that of `Fut`
pub future_type : (names : List Name) (types : List PlainType) {one : PlainType} {value : TypeIndex} {found : Shape}
    → found ≡ shape.Fut value → one ≡ shape_type names types found → one ≡ PlainFut (type_at types value)
unfolding shape_type
future_type names types is stands = stands ∙ ap (shape_type names types) is

-- that of the type of no value
pub bottom_type : (names : List Name) (types : List PlainType) {one : PlainType} {found : Shape}
    → found ≡ shape.Bottom → one ≡ shape_type names types found → one ≡ PlainBottom
unfolding shape_type
bottom_type names types is stands = stands ∙ ap (shape_type names types) is

-- another shape than that of the type of no value
shape_not_bottom : (names : List Name) (types : List PlainType) (found : Shape) → (found ≡ shape.Bottom → ⊥)
    → shape_type names types found ≡ PlainBottom → ⊥
unfolding shape_type
shape_not_bottom names types shape.Bottom other is = other refl
shape_not_bottom names types found other is = cc

-- so a type of another shape is not that of no value
pub not_bottom : (names : List Name) (types : List PlainType) {one : PlainType} {found : Shape}
    → (found ≡ shape.Bottom → ⊥) → one ≡ shape_type names types found → one ≡ PlainBottom → ⊥
not_bottom names types {one} {found} other stands is =
    shape_not_bottom names types found other (sym stands ∙ is)

-- another shape than that of `Fut`
shape_not_future : (names : List Name) (types : List PlainType) (found : Shape) (value : PlainType)
    → ((inner : TypeIndex) → found ≡ shape.Fut inner → ⊥) → shape_type names types found ≡ PlainFut value → ⊥
unfolding shape_type
shape_not_future names types (shape.Fut inner) value other is = other inner refl
shape_not_future names types found value other is = cc

-- so a type of another shape is not `Fut`
pub not_future : (names : List Name) (types : List PlainType) {one : PlainType} {found : Shape} (value : PlainType)
    → ((inner : TypeIndex) → found ≡ shape.Fut inner → ⊥) → one ≡ shape_type names types found
    → one ≡ PlainFut value → ⊥
not_future names types {one} {found} value other stands is =
    shape_not_future names types found value other (sym stands ∙ is)

-- a type with a type parameter in it is that parameter, or `Fut`, or applied
shape_cases : (P : PlainType → Type 0) → ((head argument : PlainType) → P (PlainApplied head argument))
    → (names : List Name) (types : List PlainType) (found : Shape)
    → ((inner : TypeIndex) → found ≡ shape.Fut inner → ⊥) → ((index : ℕ) → found ≡ shape.Parameter index → ⊥)
    → has_parameter (shape_type names types found) ≡ true → P (shape_type names types found)
unfolding shape_type
shape_cases P applied names types (shape.Applied head argument) not_fut not_parameter inside =
    applied (type_at types head) (type_at types argument)
shape_cases P applied names types (shape.Fut value) not_fut not_parameter inside = absurd (not_fut value refl)
shape_cases P applied names types (shape.Parameter index) not_fut not_parameter inside =
    absurd (not_parameter index refl)
shape_cases P applied names types found not_fut not_parameter inside = absurd (false≢true inside)

-- so what is so of each applied type is so of one that is neither of the others
pub open_cases : (P : PlainType → Type 0) → ((head argument : PlainType) → P (PlainApplied head argument))
    → (names : List Name) (types : List PlainType) {one : PlainType} {found : Shape}
    → ((inner : TypeIndex) → found ≡ shape.Fut inner → ⊥) → ((index : ℕ) → found ≡ shape.Parameter index → ⊥)
    → one ≡ shape_type names types found → has_parameter one ≡ true → P one
open_cases P applied names types {one} {found} not_fut not_parameter stands inside =
    subst P (sym stands)
    (shape_cases P applied names types found not_fut not_parameter (sym (ap has_parameter stands) ∙ inside))
