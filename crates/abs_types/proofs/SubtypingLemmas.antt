-- Fitting is an order. The test and the relation agree; the relation is transitive by its sentences, and antisymmetric
-- where no interface extends itself.
use Rattle.std.proofs.Common.{◌≡◌, ℕ, ◌<◌, Bool, true, false, List, length, Option, Some, refl, sym, ap, ap₂, ◌∙◌, subst, ◌↔◌, ◌⊎◌, inl, inr, bytes_eq, arith, ⊎_elim, true≢false, eq-eqb, eqb-true}
use Rattle.std.specs.List.{All}
use Rattle.std.proofs.lemmas.Bool.{and_from, and_parts, or_left, or_right, or_cases}
use Rattle.std.proofs.lemmas.List.Elements.{All-get_or}
use Rattle.std.proofs.lemmas.List.FromFn.{get_or-map-range_with_len, length-map-range_with_len}
use Rattle.std.proofs.lemmas.Slice.Eq.{bytes_eq-Decides}
use Rattle.abs_graph.specs.Graphs.{Graph, Reaches, reaches, on_cycles}
use Rattle.abs_graph.specs.Graphs.Reaches.{in_one, in_more}
use Rattle.abs_graph.proofs.ReachLemmas.{reaches_found, reaches_whole, leads_below}
use Rattle.abs_program.specs.NameSpaces.{spaces_of}
use Rattle.abs_program.specs.Supertypes.{supertypes, is_below}
use Rattle.abs_tree.specs.Syntax.{Name, DeclTree}
use Rattle.abs_program.specs.Tables.{meaning_of}
use Rattle.abs_program.specs.declared.name_spaces.Taking.{Taking}
use Rattle.abs_program.specs.declared.name_spaces.TypeMeaning.{TypeMeaning}
use Rattle.abs_program.specs.declared.name_spaces.TypeMeaning.TheVariants as type
use Rattle.abs_types.specs.PlainTypes.{PlainType, PlainInt, PlainString, PlainBottom, PlainNull, PlainFut, PlainData, PlainApplied, PlainInterface, PlainClass, PlainParameter}
use Rattle.abs_types.specs.Subtyping.{interface_below, class_below, extends_name, implements_name, Fits, fits, NoneExtendsItself}
use Rattle.abs_types.specs.Subtyping.Fits.{equal, bottom, null_interface, null_future, implements, extends, futures, applied}
use Rattle.abs_graph.proofs.CertificateLemmas.{reaches_along}

-- only a node reaches one
reaches_below : {graph : Graph} {goal node : ℕ} → Reaches graph goal node → node < length graph
reaches_below {graph} {goal} (in_one node led) = leads_below graph node goal led
reaches_below {graph} (in_more node next led later) = leads_below graph node next led

-- where no node is on a cycle, none reaches itself
none_on_cycle : (graph : Graph) (node : ℕ) → All (λ (b : Bool). b ≡ false) (on_cycles graph)
    → reaches graph node node ≡ true → ⊥
none_on_cycle graph node none reported =
    let below = reaches_below (reaches_found graph node node reported) in
    let within : node < length (on_cycles graph) =
    subst (λ (n : ℕ). node < n)
    (sym (length-map-range_with_len (λ other. reaches graph other other) 0 (length graph))) below in
    true≢false (sym reported
    ∙ sym (get_or-map-range_with_len (λ other. reaches graph other other) 0 (length graph) node node true below
    (omega arith))
    ∙ All-get_or (λ (b : Bool). b ≡ false) (on_cycles graph) node true within none)

-- being below is transitive
pub below_transitive : (declarations : List DeclTree) (one between other : ℕ) → is_below declarations one between ≡ true
    → is_below declarations between other ≡ true → is_below declarations one other ≡ true
unfolding is_below
below_transitive declarations one between other first second =
    reaches_whole (supertypes declarations) one other
    (reaches_along (supertypes declarations) other between one
    (reaches_found (supertypes declarations) between other second)
    (reaches_found (supertypes declarations) one between first))

-- no declaration is below itself, if none is on a cycle
below_irreflexive : (declarations : List DeclTree) (one : ℕ) → NoneExtendsItself declarations
    → is_below declarations one one ≡ true → ⊥
unfolding is_below
below_irreflexive declarations one none reported = none_on_cycle (supertypes declarations) one none reported

-- the same of what names stand for
interface_below_transitive : (declarations : List DeclTree) (one between other : Option TypeMeaning)
    → interface_below declarations one between ≡ true → interface_below declarations between other ≡ true
    → interface_below declarations one other ≡ true
interface_below_transitive declarations (Some (type.Interface one)) (Some (type.Interface between))
    (Some (type.Interface other)) first second =
    below_transitive declarations one between other first second
interface_below_transitive declarations (Some (type.Interface one)) (Some (type.Interface between)) other first second =
    absurd (true≢false (sym second))
interface_below_transitive declarations one between other first second = absurd (true≢false (sym first))

class_below_transitive : (declarations : List DeclTree) (class : Option Taking) (between other : Option TypeMeaning)
    → class_below declarations class between ≡ true → interface_below declarations between other ≡ true
    → class_below declarations class other ≡ true
class_below_transitive declarations (Some class) (Some (type.Interface between)) (Some (type.Interface other)) first
    second =
    below_transitive declarations class.declaration between other first second
class_below_transitive declarations (Some class) (Some (type.Interface between)) other first second =
    absurd (true≢false (sym second))
class_below_transitive declarations class between other first second = absurd (true≢false (sym first))

interface_below_irreflexive : (declarations : List DeclTree) (one : Option TypeMeaning) → NoneExtendsItself declarations
    → interface_below declarations one one ≡ true → ⊥
interface_below_irreflexive declarations (Some (type.Interface one)) none reported =
    below_irreflexive declarations one none reported
interface_below_irreflexive declarations one none reported = true≢false (sym reported)

-- the same by names
extends_transitive : (declarations : List DeclTree) (one between other : Name)
    → extends_name declarations one between ≡ true → extends_name declarations between other ≡ true
    → extends_name declarations one other ≡ true
unfolding extends_name
extends_transitive declarations one between other =
    interface_below_transitive declarations (meaning_of (spaces_of declarations).types one)
    (meaning_of (spaces_of declarations).types between) (meaning_of (spaces_of declarations).types other)

implements_extended : (declarations : List DeclTree) (class between other : Name)
    → implements_name declarations class between ≡ true → extends_name declarations between other ≡ true
    → implements_name declarations class other ≡ true
unfolding implements_name extends_name
implements_extended declarations class between other =
    class_below_transitive declarations (meaning_of (spaces_of declarations).classes class)
    (meaning_of (spaces_of declarations).types between) (meaning_of (spaces_of declarations).types other)

extends_irreflexive : (declarations : List DeclTree) (one : Name) → NoneExtendsItself declarations
    → extends_name declarations one one ≡ true → ⊥
unfolding extends_name
extends_irreflexive declarations one =
    interface_below_irreflexive declarations (meaning_of (spaces_of declarations).types one)

-- a name is equal to itself by the test
name_is_itself : (name : Name) → bytes_eq name name ≡ true
name_is_itself name = (bytes_eq-Decides name name).1 refl

-- a type fits itself
pub fits_reflexive : (declarations : List DeclTree) (one : PlainType) → fits declarations one one ≡ true
unfolding fits
fits_reflexive declarations PlainInt = refl
fits_reflexive declarations PlainString = refl
fits_reflexive declarations PlainBottom = refl
fits_reflexive declarations PlainNull = refl
fits_reflexive declarations (PlainFut value) = fits_reflexive declarations value
fits_reflexive declarations (PlainData name) = name_is_itself name
fits_reflexive declarations (PlainApplied head argument) =
    and_from (fits declarations head head) (fits declarations argument argument)
    (fits_reflexive declarations head) (fits_reflexive declarations argument)
fits_reflexive declarations (PlainInterface name) =
    or_left (bytes_eq name name) (extends_name declarations name name) (name_is_itself name)
fits_reflexive declarations (PlainClass name) = name_is_itself name
fits_reflexive declarations (PlainParameter index) = eq-eqb index index refl

-- `null` fits its own type, interfaces and `Fut` types alone
pub null_fitting : (declarations : List DeclTree) (other : PlainType) → fits declarations PlainNull other ≡ true
    → (other ≡ PlainNull) ⊎ ((name : Name) × other ≡ PlainInterface name) ⊎ ((value : PlainType) × other ≡ PlainFut value)
unfolding fits
null_fitting declarations PlainNull reported = inl refl
null_fitting declarations (PlainInterface name) reported = inr (inl (name, refl))
null_fitting declarations (PlainFut value) reported = inr (inr (value, refl))
null_fitting declarations other reported = absurd (true≢false (sym reported))

-- `Fut` of a type fits `Fut` of another type exactly where the first type fits the other
pub futures_fitting : (declarations : List DeclTree) (one other : PlainType)
    → (fits declarations (PlainFut one) (PlainFut other) ≡ true) ↔ (fits declarations one other ≡ true)
unfolding fits
futures_fitting declarations one other = (λ both. both, λ parts. parts)

-- the test finds a reason to fit
pub fits_found : (declarations : List DeclTree) (one other : PlainType) → fits declarations one other ≡ true
    → Fits declarations one other
unfolding fits
fits_found declarations PlainBottom other reported = bottom other
fits_found declarations PlainNull PlainNull reported = equal PlainNull
fits_found declarations PlainNull (PlainInterface name) reported = null_interface name
fits_found declarations PlainNull (PlainFut value) reported = null_future value
fits_found declarations PlainInt PlainInt reported = equal PlainInt
fits_found declarations PlainString PlainString reported = equal PlainString
fits_found declarations (PlainFut one) (PlainFut other) reported =
    futures one other (fits_found declarations one other reported)
fits_found declarations (PlainData one) (PlainData other) reported =
    subst (λ (name : Name). Fits declarations (PlainData one) (PlainData name))
    ((bytes_eq-Decides one other).0 reported) (equal (PlainData one))
fits_found declarations (PlainApplied head argument) (PlainApplied other_head other_argument) reported =
    let both = and_parts (fits declarations head other_head) (fits declarations argument other_argument) reported in
    applied head other_head argument other_argument
    (fits_found declarations head other_head both.0)
    (fits_found declarations argument other_argument both.1)
fits_found declarations (PlainInterface one) (PlainInterface other) reported = ⊎_elim
    (λ same. subst (λ (name : Name). Fits declarations (PlainInterface one) (PlainInterface name))
    ((bytes_eq-Decides one other).0 same) (equal (PlainInterface one)))
    (extends one other)
    (or_cases (bytes_eq one other) (extends_name declarations one other) reported)
fits_found declarations (PlainClass one) (PlainClass other) reported =
    subst (λ (name : Name). Fits declarations (PlainClass one) (PlainClass name))
    ((bytes_eq-Decides one other).0 reported) (equal (PlainClass one))
fits_found declarations (PlainClass class) (PlainInterface interface) reported = implements class interface reported
fits_found declarations (PlainParameter one) (PlainParameter other) reported =
    subst (λ (index : ℕ). Fits declarations (PlainParameter one) (PlainParameter index))
    (eqb-true one other reported) (equal (PlainParameter one))
fits_found declarations one other reported = absurd (true≢false (sym reported))

-- each reason to fit passes the test
pub fits_whole : {declarations : List DeclTree} {one other : PlainType} → Fits declarations one other
    → fits declarations one other ≡ true
unfolding fits
fits_whole {declarations} (equal one) = fits_reflexive declarations one
fits_whole (bottom other) = refl
fits_whole (null_interface name) = refl
fits_whole (null_future value) = refl
fits_whole (implements class interface reported) = reported
fits_whole {declarations} (extends one other reported) =
    or_right (bytes_eq one other) (extends_name declarations one other) reported
fits_whole (futures one other parts) = fits_whole parts
fits_whole {declarations} (applied head other_head argument other_argument heads arguments) =
    and_from (fits declarations head other_head) (fits declarations argument other_argument)
    (fits_whole heads) (fits_whole arguments)

-- what fits a type that fits a third one fits that one too
fits_after : {declarations : List DeclTree} {one between other : PlainType} → Fits declarations one between
    → Fits declarations between other → Fits declarations one other
fits_after (equal one) second = second
fits_after {declarations} {other = other} (bottom between) second = bottom other
fits_after (null_interface name) (equal _) = null_interface name
fits_after (null_interface name) (extends _ other reported) = null_interface other
fits_after (null_future value) (equal _) = null_future value
fits_after (null_future value) (futures _ other parts) = null_future other
fits_after (implements class interface reported) (equal _) = implements class interface reported
fits_after {declarations} (implements class interface reported) (extends _ other more) =
    implements class other (implements_extended declarations class interface other reported more)
fits_after (extends one between reported) (equal _) = extends one between reported
fits_after {declarations} (extends one between reported) (extends _ other more) =
    extends one other (extends_transitive declarations one between other reported more)
fits_after (futures one between parts) (equal _) = futures one between parts
fits_after (futures one between parts) (futures _ other more) = futures one other (fits_after parts more)
fits_after (applied head between_head argument between_argument heads arguments) (equal _) =
    applied head between_head argument between_argument heads arguments
fits_after (applied head between_head argument between_argument heads arguments)
    (applied _ other_head _ other_argument more_heads more_arguments) =
    applied head other_head argument other_argument (fits_after heads more_heads) (fits_after arguments more_arguments)

-- the same by the test
pub fits_transitive : (declarations : List DeclTree) (one between other : PlainType)
    → fits declarations one between ≡ true → fits declarations between other ≡ true
    → fits declarations one other ≡ true
fits_transitive declarations one between other first second =
    fits_whole (fits_after (fits_found declarations one between first) (fits_found declarations between other second))

-- two types that fit each other are the same
same_by_fitting : {declarations : List DeclTree} {one other : PlainType} → NoneExtendsItself declarations
    → Fits declarations one other → Fits declarations other one → one ≡ other
same_by_fitting none (equal one) back = refl
same_by_fitting none (bottom _) (equal _) = refl
same_by_fitting none (bottom _) (bottom _) = refl
same_by_fitting none (null_interface _) back = elim back [ ]
same_by_fitting none (null_future _) back = elim back [ ]
same_by_fitting none (implements _ _ _) back = elim back [ ]
same_by_fitting none (extends one _ reported) (equal _) = refl
same_by_fitting {declarations} none (extends one other reported) (extends _ _ back) =
    absurd (extends_irreflexive declarations one none (extends_transitive declarations one other one reported back))
same_by_fitting none (futures one _ parts) (equal _) = refl
same_by_fitting none (futures one other parts) (futures _ _ back) = ap PlainFut (same_by_fitting none parts back)
same_by_fitting none (applied head _ argument _ heads arguments) (equal _) = refl
same_by_fitting none (applied head other_head argument other_argument heads arguments)
    (applied _ _ _ _ back_heads back_arguments) =
    ap₂ PlainApplied (same_by_fitting none heads back_heads) (same_by_fitting none arguments back_arguments)

-- the same by the test
pub fits_antisymmetric : (declarations : List DeclTree) (one other : PlainType) → NoneExtendsItself declarations
    → fits declarations one other ≡ true → fits declarations other one ≡ true → one ≡ other
fits_antisymmetric declarations one other none there back =
    same_by_fitting none (fits_found declarations one other there) (fits_found declarations other one back)
