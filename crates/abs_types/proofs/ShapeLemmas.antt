-- Equal shapes, and shapes of equal types.
--
--   `shape_eq`, `shape_eq_same`    the test of the code, which tells equal shapes
--   `one_index`                    where no two shapes are equal, a shape has one index
--   `same_index`                   where shapes are formed, a type has one index
use Rattle.std.proofs.Common.{◌≡◌, ℕ, ◌<◌, zero, suc, Bool, true, false, List, Some, refl, sym, ap, ◌∙◌, length, get_or, slice_get, arith, rules, true≢false}
use Rattle.std.specs.List.{IsDistinct}
use Rattle.std.specs.Prelude.{codes}
use Rattle.std.specs.Str.{bytes_eq}
use Rattle.std.proofs.lemmas.Map.Keys.{apart_from_distinct}
use Rattle.std.proofs.lemmas.Option.{get_or_from_slice_get, slice_get_within, slice_get-get_or}
use Rattle.abs_tree.specs.Names.{number_of_name}
use Rattle.abs_tree.specs.Syntax.{Name}
use Rattle.abs_types.proofs.TypeTableLemmas.{type_at_shape}
use Rattle.abs_types.specs.PlainTypes.{PlainType, PlainData}
use Rattle.abs_types.specs.OperatorTypes.{bool_type, unit_type}
use Rattle.abs_types.specs.TypeShapes.{type_at, named_by, shape_type, types_of, HasPartsBelow, HasOwnNames, IsOwnNumber, AreFormed}
use Rattle.abs_types.specs.contracts.table.shape.ShapePartialEq.TheImpl as shape_equality
use Rattle.abs_types.specs.declared.table.shape.Shape.{Shape}
use Rattle.abs_types.specs.declared.table.shape.Shape.TheVariants as shape
use Rattle.abs_types.specs.declared.table.shape.TypeIndex.{TypeIndex}

-- whether two shapes are equal
abbrev pub shape_eq : Shape → Shape → Bool
shape_eq = (shape_equality.eq-value).it

shape_eq_reflexive : (one : Shape) → shape_eq one one ≡ true
shape_eq_reflexive one = search rules

-- the test tells equal shapes
pub shape_eq_same : (one other : Shape) → shape_eq one other ≡ true → one ≡ other
shape_eq_same one other reported = search rules

-- two numbers of their own with one name are equal
same_number : (names : List Name) (one other : ℕ) → IsOwnNumber names one → IsOwnNumber names other
    → named_by names one ≡ named_by names other → one ≡ other
same_number names one other own other_own same = sym own ∙ (ap (number_of_name names) same ∙ other_own)

-- whether a type is `Bool`
is_bool : PlainType → Bool
is_bool (PlainData name) = bytes_eq name (codes "Bool")
is_bool _ = false

-- `Bool` is not `Unit`
bool_apart : bool_type ≡ unit_type → ⊥
unfolding is_bool
bool_apart same = true≢false (ap is_bool same)

-- shapes of one type are equal, if their parts of one type are
same_shape : (names : List Name) (types : List PlainType) (count more : ℕ) (one other : Shape)
    → HasPartsBelow count one → HasPartsBelow more other → HasOwnNames names one → HasOwnNames names other
    → ((part other_part : TypeIndex) → part.0 < count → other_part.0 < more
    → type_at types part ≡ type_at types other_part → part ≡ other_part)
    → shape_type names types one ≡ shape_type names types other → one ≡ other
unfolding shape_type
same_shape names types count more (shape.Fut value) (shape.Fut other) below other_below own other_own parts same =
    ap shape.Fut (parts value other below other_below cc)
same_shape names types count more (shape.Applied head argument) (shape.Applied other_head other_argument) below
    other_below own other_own parts same =
    let heads : head ≡ other_head = parts head other_head below.0 other_below.0 cc in
    let arguments : argument ≡ other_argument = parts argument other_argument below.1 other_below.1 cc in
    cc
same_shape names types count more (shape.Data one) (shape.Data other) below other_below own other_own parts same =
    ap shape.Data (same_number names one other own.0 other_own.0 cc)
same_shape names types count more (shape.Interface one) (shape.Interface other) below other_below own other_own parts
    same = ap shape.Interface (same_number names one other own other_own cc)
same_shape names types count more (shape.Class one) (shape.Class other) below other_below own other_own parts same =
    ap shape.Class (same_number names one other own other_own cc)
same_shape names types count more (shape.Data one) shape.Bool below other_below own other_own parts same =
    absurd (own.1 cc)
same_shape names types count more (shape.Data one) shape.Unit below other_below own other_own parts same =
    absurd (own.2 cc)
same_shape names types count more shape.Bool (shape.Data other) below other_below own other_own parts same =
    absurd (other_own.1 cc)
same_shape names types count more shape.Unit (shape.Data other) below other_below own other_own parts same =
    absurd (other_own.2 cc)
same_shape names types count more shape.Int shape.Int below other_below own other_own parts same = refl
same_shape names types count more shape.String shape.String below other_below own other_own parts same = refl
same_shape names types count more shape.Bottom shape.Bottom below other_below own other_own parts same = refl
same_shape names types count more shape.Null shape.Null below other_below own other_own parts same = refl
same_shape names types count more shape.Bool shape.Bool below other_below own other_own parts same = refl
same_shape names types count more shape.Unit shape.Unit below other_below own other_own parts same = refl
same_shape names types count more (shape.Parameter one) (shape.Parameter other) below other_below own other_own parts
    same = ap shape.Parameter cc
same_shape names types count more shape.Bool shape.Unit below other_below own other_own parts same =
    absurd (bool_apart same)
same_shape names types count more shape.Unit shape.Bool below other_below own other_own parts same =
    absurd (bool_apart (sym same))
same_shape names types count more one other below other_below own other_own parts same = cc

-- where no two of some shapes are equal, a shape is not at a later index too
no_later : (shapes : List Shape) (index other : ℕ) (found : Shape) → IsDistinct shape_eq shapes
    → slice_get shapes index ≡ Some found → slice_get shapes other ≡ Some found → index < other → ⊥
no_later shapes index other found distinct is other_is before =
    let apart = apart_from_distinct shape_eq shapes index other found distinct before
    (slice_get_within shapes other found other_is) in
    let same : shape_eq (get_or shapes index found) (get_or shapes other found) ≡ true =
    rw (get_or_from_slice_get shapes index found found is, get_or_from_slice_get shapes other found found other_is)
    (shape_eq_reflexive found) in
    true≢false (sym same ∙ apart)

-- where no two of some shapes are equal, a shape has one index
one_index : (shapes : List Shape) (index other : ℕ) (found : Shape) → IsDistinct shape_eq shapes
    → slice_get shapes index ≡ Some found → slice_get shapes other ≡ Some found → index ≡ other
one_index shapes index other found distinct is other_is =
    let not_before = no_later shapes index other found distinct is other_is in
    let not_after = no_later shapes other index found distinct other_is is in
    omega (arith, not_before, not_after)

-- the same by induction on a bound of the first index
same_index_below : (names : List Name) (shapes : List Shape) (bound : ℕ) (one other : TypeIndex)
    → AreFormed names shapes → IsDistinct shape_eq shapes → one.0 < bound → one.0 < length shapes
    → other.0 < length shapes
    → type_at (types_of names shapes) one ≡ type_at (types_of names shapes) other → one ≡ other
same_index_below names shapes zero one other formed distinct below inside other_inside same = absurd (omega arith)
same_index_below names shapes (suc bound) one other formed distinct below inside other_inside same =
    let found = get_or shapes one.0 shape.Int in
    let other_found = get_or shapes other.0 shape.Int in
    let is : slice_get shapes one.0 ≡ Some found = slice_get-get_or shapes one.0 shape.Int inside in
    let other_is : slice_get shapes other.0 ≡ Some other_found =
    slice_get-get_or shapes other.0 shape.Int other_inside in
    let parts = formed.parts one.0 found is in
    let other_parts = formed.parts other.0 other_found other_is in
    let types = types_of names shapes in
    let equal : shape_type names types found ≡ shape_type names types other_found =
    sym (type_at_shape names shapes one.0 found is parts)
    ∙ (same ∙ type_at_shape names shapes other.0 other_found other_is other_parts) in
    let shapes_same : found ≡ other_found =
    same_shape names types one.0 other.0 found other_found parts other_parts (formed.names_are one.0 found is)
    (formed.names_are other.0 other_found other_is)
    (λ part other_part lower other_lower equal_parts. same_index_below names shapes bound part other_part formed
    distinct (omega arith) (omega arith) (omega arith) equal_parts) equal in
    ap (λ (number : ℕ). record { 0 = number })
    (one_index shapes one.0 other.0 other_found distinct (is ∙ ap Some shapes_same) other_is)

-- where shapes are formed and no two are equal, a type has one index
pub same_index : (names : List Name) (shapes : List Shape) (one other : TypeIndex) → AreFormed names shapes
    → IsDistinct shape_eq shapes → one.0 < length shapes → other.0 < length shapes
    → type_at (types_of names shapes) one ≡ type_at (types_of names shapes) other → one ≡ other
same_index names shapes one other formed distinct inside other_inside same =
    same_index_below names shapes (suc one.0) one other formed distinct (omega arith) inside other_inside same
