-- The parts of two types that stand for each other, and whether one of the types fits the other.
--
--   `future_unlike`, `applied_unlike`, ..  types by whose forms no parts stand for each other
--   `stands_alone`                         a type fits types of its own form alone
--   `shape_alone`, `alone_unfit`           which shapes do, and that such a type does not fit another one
--   `null_unfit`, `class_unfit`, ..        other types that do not fit
--   `interface_by_name`                    an interface fits another one that it extends
--   `futures_fit`, `heads_fit`, ..         parts decide whether the whole fits
--   `same_fits`                            a type fits one that is the same
use Rattle.std.proofs.Common.{◌≡◌, ◌≢◌, ℕ, Bool, true, false, ◌&&◌, List, refl, sym, ap, ◌∙◌, arith}
use Rattle.std.specs.Str.{bytes_eq}
use Rattle.std.proofs.Math.Bool.{and-true, and-false}
use Rattle.std.proofs.lemmas.Slice.Eq.{bytes_eq-Decides}
use Rattle.abs_tree.specs.Syntax.{Name, DeclTree}
use Rattle.abs_types.proofs.SubtypingLemmas.{fits_reflexive}
use Rattle.abs_types.specs.PlainTypes.{PlainType, PlainInt, PlainString, PlainBottom, PlainNull, PlainFut, PlainData, PlainApplied, PlainInterface, PlainClass, PlainParameter}
use Rattle.abs_types.specs.Subtyping.{extends_name, fits, takes_null}
use Rattle.abs_types.specs.TypeParts.{have_parts_alike, AreFutures, AreApplied}
use Rattle.abs_types.specs.TypeShapes.{named_by, shape_type, type_at}
use Rattle.abs_types.specs.declared.table.shape.Shape.{Shape}
use Rattle.abs_types.specs.declared.table.shape.Shape.TheVariants as shape
use Rattle.abs_types.specs.declared.table.shape.TypeIndex.{TypeIndex}
use Rattle.abs_types.specs.declared.table.shape.TypePair.{TypePair}
use Rattle.std.proofs.lemmas.Bool.{ne_eqb}

-- `Fut` and another form have no parts alike
pub future_unlike : (names : List Name) (types : List PlainType) (value : PlainType) (other : Shape)
    → ((inner : TypeIndex) → other ≡ shape.Fut inner → ⊥)
    → have_parts_alike (PlainFut value) (shape_type names types other) ≡ false
unfolding shape_type
future_unlike names types value (shape.Fut inner) not_future = absurd (not_future inner refl)
future_unlike names types value other not_future = refl

-- nor have applied data and another form
pub applied_unlike : (names : List Name) (types : List PlainType) (head argument : PlainType) (other : Shape)
    → ((other_head other_argument : TypeIndex) → other ≡ shape.Applied other_head other_argument → ⊥)
    → have_parts_alike (PlainApplied head argument) (shape_type names types other) ≡ false
unfolding shape_type
applied_unlike names types head argument (shape.Applied other_head other_argument) not_applied =
    absurd (not_applied other_head other_argument refl)
applied_unlike names types head argument other not_applied = refl

-- nor have other forms and any
pub others_unlike : (names : List Name) (types : List PlainType) (one : Shape) (other : PlainType)
    → ((inner : TypeIndex) → one ≡ shape.Fut inner → ⊥)
    → ((head argument : TypeIndex) → one ≡ shape.Applied head argument → ⊥)
    → have_parts_alike (shape_type names types one) other ≡ false
unfolding shape_type
others_unlike names types (shape.Fut inner) other not_future not_applied = absurd (not_future inner refl)
others_unlike names types (shape.Applied head argument) other not_future not_applied =
    absurd (not_applied head argument refl)
others_unlike names types one other not_future not_applied = refl

-- names that differ fail the test
names_differ : (one other : Name) → one ≢ other → bytes_eq one other ≡ false
names_differ one other differ = grind (arith, bytes_eq-Decides one other)

-- whether a type fits types of its own form alone
abbrev pub stands_alone : PlainType → Bool
stands_alone PlainBottom = false
stands_alone PlainNull = false
stands_alone (PlainInterface name) = false
stands_alone (PlainClass name) = false
stands_alone _ = true

-- a shape of none of these forms is that of such a type
pub shape_alone : (names : List Name) (types : List PlainType) (one : Shape) → one ≢ shape.Bottom → one ≢ shape.Null
    → ((name : ℕ) → one ≡ shape.Interface name → ⊥) → ((name : ℕ) → one ≡ shape.Class name → ⊥)
    → stands_alone (shape_type names types one) ≡ true
unfolding shape_type
shape_alone names types shape.Bottom not_bottom not_null not_interface not_class = absurd (not_bottom refl)
shape_alone names types shape.Null not_bottom not_null not_interface not_class = absurd (not_null refl)
shape_alone names types (shape.Interface name) not_bottom not_null not_interface not_class =
    absurd (not_interface name refl)
shape_alone names types (shape.Class name) not_bottom not_null not_interface not_class = absurd (not_class name refl)
shape_alone names types one not_bottom not_null not_interface not_class = refl

-- such a type does not fit another one with which it has no parts alike
pub alone_unfit : (declarations : List DeclTree) (one other : PlainType) → stands_alone one ≡ true → one ≢ other
    → have_parts_alike one other ≡ false → false ≡ fits declarations one other
unfolding fits
alone_unfit declarations PlainInt PlainInt alone differ apart = absurd (differ refl)
alone_unfit declarations PlainString PlainString alone differ apart = absurd (differ refl)
alone_unfit declarations (PlainFut one) (PlainFut other) alone differ apart = cc
alone_unfit declarations (PlainData one) (PlainData other) alone differ apart =
    sym (names_differ one other (λ same. differ (ap PlainData same)))
alone_unfit declarations (PlainApplied head argument) (PlainApplied other_head other_argument) alone differ apart = cc
alone_unfit declarations (PlainParameter one) (PlainParameter other) alone differ apart =
    sym (ne_eqb one other (λ same. differ (ap PlainParameter same)))
alone_unfit declarations PlainBottom other alone differ apart = cc
alone_unfit declarations PlainNull other alone differ apart = cc
alone_unfit declarations (PlainInterface name) other alone differ apart = cc
alone_unfit declarations (PlainClass name) other alone differ apart = cc
alone_unfit declarations one other alone differ apart = refl

-- the type of `null` does not fit another form
pub null_unfit : (names : List Name) (types : List PlainType) (other : Shape)
    → ((name : ℕ) → other ≡ shape.Interface name → ⊥) → ((value : TypeIndex) → other ≡ shape.Fut value → ⊥)
    → PlainNull ≢ shape_type names types other → false ≡ takes_null (shape_type names types other)
unfolding shape_type
null_unfit names types (shape.Interface name) not_interface not_future differ = absurd (not_interface name refl)
null_unfit names types (shape.Fut value) not_interface not_future differ = absurd (not_future value refl)
null_unfit names types shape.Null not_interface not_future differ = absurd (differ refl)
null_unfit names types other not_interface not_future differ = refl

-- an interface fits another one that it extends
pub interface_by_name : (declarations : List DeclTree) (one other : Name)
    → PlainInterface one ≢ PlainInterface other
    → extends_name declarations one other ≡ fits declarations (PlainInterface one) (PlainInterface other)
unfolding fits
interface_by_name declarations one other differ =
    rw (names_differ one other (λ same. differ (ap PlainInterface same)))

-- and no other form
pub interface_unfit : (declarations : List DeclTree) (name : Name) (names : List Name) (types : List PlainType)
    (other : Shape) → ((number : ℕ) → other ≡ shape.Interface number → ⊥)
    → false ≡ fits declarations (PlainInterface name) (shape_type names types other)
unfolding fits shape_type
interface_unfit declarations name names types (shape.Interface number) not_interface =
    absurd (not_interface number refl)
interface_unfit declarations name names types other not_interface = refl

-- an object of a class fits an interface, and no other type of another form
pub class_unfit : (declarations : List DeclTree) (name : Name) (names : List Name) (types : List PlainType)
    (other : Shape) → ((number : ℕ) → other ≡ shape.Interface number → ⊥)
    → PlainClass name ≢ shape_type names types other
    → false ≡ fits declarations (PlainClass name) (shape_type names types other)
unfolding fits shape_type
class_unfit declarations name names types (shape.Interface number) not_interface differ =
    absurd (not_interface number refl)
class_unfit declarations name names types (shape.Class number) not_interface differ =
    sym (names_differ name (named_by names number) (λ same. differ (ap PlainClass same)))
class_unfit declarations name names types other not_interface differ = refl

-- `Fut` fits if its value does
pub futures_fit : {types : List PlainType} {one other : TypeIndex} {values : TypePair} (declarations : List DeclTree)
    → AreFutures types one other values
    → fits declarations (type_at types one) (type_at types other)
    ≡ fits declarations (type_at types values.one) (type_at types values.other)
unfolding fits
futures_fit declarations futures = rw (futures.one_is, futures.other_is)

-- applied data fits if its head and its argument do
applied_fit : {types : List PlainType} {one other : TypeIndex} {heads arguments : TypePair}
    (declarations : List DeclTree) → AreApplied types one other heads arguments
    → fits declarations (type_at types one) (type_at types other)
    ≡ fits declarations (type_at types heads.one) (type_at types heads.other)
    && fits declarations (type_at types arguments.one) (type_at types arguments.other)
unfolding fits
applied_fit declarations applied = rw (applied.one_is, applied.other_is)

-- so its head decides where the argument fits
pub heads_fit : {types : List PlainType} {one other : TypeIndex} {heads arguments : TypePair}
    (declarations : List DeclTree) → AreApplied types one other heads arguments
    → fits declarations (type_at types arguments.one) (type_at types arguments.other) ≡ true
    → fits declarations (type_at types one) (type_at types other)
    ≡ fits declarations (type_at types heads.one) (type_at types heads.other)
heads_fit {types} {heads = heads} declarations applied fit =
    applied_fit declarations applied
    ∙ (ap (λ test. fits declarations (type_at types heads.one) (type_at types heads.other) && test) fit ∙ and-true _)

-- and it does not fit where the argument does not
pub arguments_unfit : {types : List PlainType} {one other : TypeIndex} {heads arguments : TypePair}
    (declarations : List DeclTree) → AreApplied types one other heads arguments
    → fits declarations (type_at types arguments.one) (type_at types arguments.other) ≡ false
    → fits declarations (type_at types one) (type_at types other) ≡ false
arguments_unfit {types} {heads = heads} declarations applied unfit =
    applied_fit declarations applied
    ∙ (ap (λ test. fits declarations (type_at types heads.one) (type_at types heads.other) && test) unfit ∙ and-false _)

-- a type fits one that is the same
pub same_fits : (declarations : List DeclTree) (one other : PlainType) → one ≡ other
    → fits declarations one other ≡ true
same_fits declarations one other same = ap (fits declarations one) (sym same) ∙ fits_reflexive declarations one
