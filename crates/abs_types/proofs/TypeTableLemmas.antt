-- The types of shapes in a table.
--
--   `types_of-push`            the types with one more shape
--   `Grow`, `types_of-grow`    types are the first ones of more types
--   `length-types_of`          there are as many types as shapes
--   `type_at_shape`            the type with an index is that of its shape, over all types
use Rattle.std.proofs.Common.{◌≡◌, ℕ, ◌+◌, ◌<◌, ◌≤◌, zero, suc, List, [], ◌∷◌, ◌++◌, Some, refl, sym, ap, ap₂, ◌∙◌, subst, length, get_or, slice_get, arith}
use Rattle.std.proofs.lemmas.List.{get_or_append_left, get_or_push, length_push, length-append}
use Rattle.std.proofs.lemmas.Option.{none-some, same_Some}
use Rattle.abs_tree.specs.Syntax.{Name}
use Rattle.abs_types.specs.PlainTypes.{PlainType, PlainBottom, PlainFut, PlainApplied}
use Rattle.abs_types.specs.TypeShapes.{shape_type, types_after, types_of, HasPartsBelow}
use Rattle.abs_types.specs.declared.table.shape.Shape.{Shape}
use Rattle.abs_types.specs.declared.table.shape.Shape.TheVariants as shape

-- a shape whose parts are below a number has the same type over types that agree below it
shape_type-agrees : (names : List Name) (types others : List PlainType) (count : ℕ) (found : Shape)
    → HasPartsBelow count found
    → ((index : ℕ) → index < count → get_or others index PlainBottom ≡ get_or types index PlainBottom)
    → shape_type names others found ≡ shape_type names types found
unfolding shape_type
shape_type-agrees names types others count (shape.Fut value) below agree = ap PlainFut (agree value.0 below)
shape_type-agrees names types others count (shape.Applied head argument) below agree =
    ap₂ PlainApplied (agree head.0 below.0) (agree argument.0 below.1)
shape_type-agrees names types others count _ below agree = refl

-- types before those of shapes stay
types_after-kept : (names : List Name) (types : List PlainType) (shapes : List Shape) (index : ℕ)
    → index < length types → get_or (types_after names types shapes) index PlainBottom ≡ get_or types index PlainBottom
types_after-kept names types [] index below = refl
types_after-kept names types (first ∷ others) index below =
    let more = shape_type names types first ∷ [] in
    types_after-kept names (types ++ more) others index (omega (arith, length-append types more))
    ∙ get_or_append_left types more PlainBottom index below

-- there are as many types as before, and as many more as shapes
length-types_after : (names : List Name) (types : List PlainType) (shapes : List Shape)
    → length (types_after names types shapes) ≡ length types + length shapes
length-types_after names types [] = omega arith
length-types_after names types (first ∷ others) =
    let more = shape_type names types first ∷ [] in
    omega (arith, length-types_after names (types ++ more) others, length-append types more)

-- the types of more shapes follow
types_after-append : (names : List Name) (types : List PlainType) (shapes more : List Shape)
    → types_after names types (shapes ++ more) ≡ types_after names (types_after names types shapes) more
types_after-append names types [] more = refl
types_after-append names types (first ∷ others) more =
    types_after-append names (types ++ shape_type names types first ∷ []) others more

-- the type of a shape is that over all types, if its parts are before it
types_after-shape : (names : List Name) (types : List PlainType) (shapes : List Shape) (index : ℕ) (found : Shape)
    → slice_get shapes index ≡ Some found → HasPartsBelow (length types + index) found
    → get_or (types_after names types shapes) (length types + index) PlainBottom
    ≡ shape_type names (types_after names types shapes) found
types_after-shape names types [] index found is below = absurd (none-some found is)
types_after-shape names types (first ∷ others) zero found is below =
    let types_to = types ++ shape_type names types first ∷ [] in
    let counted : length types + 0 ≡ length types = omega arith in
    let count : length types_to ≡ length types + 1 = length_push types (shape_type names types first) in
    let all = types_after names types_to others in
    let grown = λ (index : ℕ) (lower : index < length types).
    types_after-kept names types (first ∷ others) index lower in
    subst (λ (place : ℕ). get_or all place PlainBottom ≡ shape_type names all found) (sym counted)
    (types_after-kept names types_to others (length types) (omega arith)
    ∙ (get_or_push types (shape_type names types first) PlainBottom (length types) refl
    ∙ (ap (shape_type names types) (same_Some first found is)
    ∙ sym (shape_type-agrees names types all (length types) found
    (subst (λ (place : ℕ). HasPartsBelow place found) counted below) grown))))
types_after-shape names types (first ∷ others) (suc index) found is below =
    let more = shape_type names types first ∷ [] in
    let same : length (types ++ more) + index ≡ length types + suc index = omega (arith, length-append types more) in
    subst (λ (place : ℕ). get_or (types_after names (types ++ more) others) place PlainBottom
    ≡ shape_type names (types_after names (types ++ more) others) found) same
    (types_after-shape names (types ++ more) others index found is
    (subst (λ (place : ℕ). HasPartsBelow place found) (sym same) below))

-- the types with one more shape
pub types_of-push : (names : List Name) (shapes : List Shape) (found : Shape)
    → types_of names (shapes ++ found ∷ [])
    ≡ types_of names shapes ++ shape_type names (types_of names shapes) found ∷ []
unfolding types_of
types_of-push names shapes found = types_after-append names [] shapes (found ∷ [])

-- Types are the first ones of more types.
pub record Grow (types more : List PlainType) : Type 0 where
  pub longer : length types ≤ length more
  pub same : (index : ℕ) → index < length types → get_or more index PlainBottom ≡ get_or types index PlainBottom

-- the types of shapes are the first ones of those of more shapes
pub types_of-grow : (names : List Name) (shapes more : List Shape)
    → Grow (types_of names shapes) (types_of names (shapes ++ more))
unfolding types_of
types_of-grow names shapes more =
    let types = types_after names [] shapes in
    subst (Grow types) (sym (types_after-append names [] shapes more)) (record {
      longer = omega (arith, length-types_after names types more);
      same = λ index below. types_after-kept names types more index below;
    })

-- there are as many types as shapes
pub length-types_of : (names : List Name) (shapes : List Shape) → length (types_of names shapes) ≡ length shapes
unfolding types_of
length-types_of names shapes = omega (arith, length-types_after names [] shapes)

-- the type with an index is that of its shape, over all types
pub type_at_shape : (names : List Name) (shapes : List Shape) (index : ℕ) (found : Shape)
    → slice_get shapes index ≡ Some found → HasPartsBelow index found
    → get_or (types_of names shapes) index PlainBottom ≡ shape_type names (types_of names shapes) found
unfolding types_of
type_at_shape names shapes index found is below =
    let counted : 0 + index ≡ index = omega arith in
    subst (λ (place : ℕ). get_or (types_after names [] shapes) place PlainBottom
    ≡ shape_type names (types_after names [] shapes) found) counted
    (types_after-shape names [] shapes index found is
    (subst (λ (place : ℕ). HasPartsBelow place found) (sym counted) below))
