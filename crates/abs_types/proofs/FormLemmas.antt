-- Types of different forms do not fit.
use Rattle.std.proofs.Common.{◌≡◌, ℕ, false, List, refl}
use Rattle.std.specs.declared.alloc.Global.{Global}
use Rattle.std.specs.declared.boxed.Box.{Box}
use Rattle.abs_tree.specs.Names.{name_of}
use Rattle.abs_tree.specs.Syntax.{Name, DeclTree}
use Rattle.abs_tree.specs.SyntaxViews.{type_tree, type_row}
use Rattle.abs_tree.specs.declared.place.Place.{Place}
use Rattle.abs_tree.specs.declared.symbol.Symbol.{Symbol}
use Rattle.abs_tree.specs.declared.syntax.types.TypeTerm as code
use Rattle.abs_tree.specs.declared.syntax.types.TypeTerm.{TypeTerm}
use Rattle.abs_types.proofs.SpineLemmas.{spine_cases}
use Rattle.abs_types.specs.PlainTypes.{PlainType, PlainInt, PlainString, PlainFut, PlainInterface, PlainClass, PlainParameter, plain, plains}
use Rattle.abs_types.specs.Subtyping.{fits, takes_null}

-- `Int` fits no type of another form
pub int_apart : (declarations : List DeclTree) (names : List Name) (term : TypeTerm)
    → ((place : Place) → term ≡ code.Int place → ⊥)
    → false ≡ fits declarations PlainInt (plain (type_tree names term))
unfolding fits
int_apart declarations names (code.Unresolved' place symbol shape row) not_int =
    spine_cases (λ other. false ≡ fits declarations PlainInt other) (λ n. refl) (λ h a. refl) (name_of names symbol)
    (plains (type_row names row))
int_apart declarations names (code.Data' place symbol shape row) not_int =
    spine_cases (λ other. false ≡ fits declarations PlainInt other) (λ n. refl) (λ h a. refl) (name_of names symbol)
    (plains (type_row names row))
int_apart declarations names (code.Int place) not_int = absurd (not_int place refl)
int_apart declarations names term not_int = refl

-- nor does `String`
pub string_apart : (declarations : List DeclTree) (names : List Name) (term : TypeTerm)
    → ((place : Place) → term ≡ code.String place → ⊥)
    → false ≡ fits declarations PlainString (plain (type_tree names term))
unfolding fits
string_apart declarations names (code.Unresolved' place symbol shape row) not_string =
    spine_cases (λ other. false ≡ fits declarations PlainString other) (λ n. refl) (λ h a. refl) (name_of names symbol)
    (plains (type_row names row))
string_apart declarations names (code.Data' place symbol shape row) not_string =
    spine_cases (λ other. false ≡ fits declarations PlainString other) (λ n. refl) (λ h a. refl) (name_of names symbol)
    (plains (type_row names row))
string_apart declarations names (code.String place) not_string = absurd (not_string place refl)
string_apart declarations names term not_string = refl

-- nor does `Fut`
pub future_apart : (declarations : List DeclTree) (value : PlainType) (names : List Name) (term : TypeTerm)
    → ((place : Place) (inner : Box TypeTerm Global) → term ≡ code.Fut place inner → ⊥)
    → false ≡ fits declarations (PlainFut value) (plain (type_tree names term))
unfolding fits
future_apart declarations value names (code.Unresolved' place symbol shape row) not_future =
    spine_cases (λ other. false ≡ fits declarations (PlainFut value) other) (λ n. refl) (λ h a. refl)
    (name_of names symbol)
    (plains (type_row names row))
future_apart declarations value names (code.Data' place symbol shape row) not_future =
    spine_cases (λ other. false ≡ fits declarations (PlainFut value) other) (λ n. refl) (λ h a. refl)
    (name_of names symbol)
    (plains (type_row names row))
future_apart declarations value names (code.Fut' place at inner) not_future =
    absurd (not_future place (record { ptr = at.ptr; alloc = at.alloc; value = inner }) refl)
future_apart declarations value names term not_future = refl

-- nor does an interface
pub interface_apart : (declarations : List DeclTree) (name : Name) (names : List Name) (term : TypeTerm)
    → ((place : Place) (symbol : Symbol) → term ≡ code.Interface place symbol → ⊥)
    → false ≡ fits declarations (PlainInterface name) (plain (type_tree names term))
unfolding fits
interface_apart declarations name names (code.Unresolved' place symbol shape row) not_interface =
    spine_cases (λ other. false ≡ fits declarations (PlainInterface name) other) (λ n. refl) (λ h a. refl)
    (name_of names symbol)
    (plains (type_row names row))
interface_apart declarations name names (code.Data' place symbol shape row) not_interface =
    spine_cases (λ other. false ≡ fits declarations (PlainInterface name) other) (λ n. refl) (λ h a. refl)
    (name_of names symbol)
    (plains (type_row names row))
interface_apart declarations name names (code.Interface place symbol) not_interface =
    absurd (not_interface place symbol refl)
interface_apart declarations name names term not_interface = refl

-- nor does a type parameter
pub parameter_apart : (declarations : List DeclTree) (index : ℕ) (names : List Name) (term : TypeTerm)
    → ((place : Place) (other : ℕ) → term ≡ code.Parameter place other → ⊥)
    → false ≡ fits declarations (PlainParameter index) (plain (type_tree names term))
unfolding fits
parameter_apart declarations index names (code.Unresolved' place symbol shape row) not_parameter =
    spine_cases (λ other. false ≡ fits declarations (PlainParameter index) other) (λ n. refl) (λ h a. refl)
    (name_of names symbol)
    (plains (type_row names row))
parameter_apart declarations index names (code.Data' place symbol shape row) not_parameter =
    spine_cases (λ other. false ≡ fits declarations (PlainParameter index) other) (λ n. refl) (λ h a. refl)
    (name_of names symbol)
    (plains (type_row names row))
parameter_apart declarations index names (code.Parameter place other) not_parameter =
    absurd (not_parameter place other refl)
parameter_apart declarations index names term not_parameter = refl

-- an object of a class fits an interface or a class
pub class_apart : (declarations : List DeclTree) (name : Name) (names : List Name) (term : TypeTerm)
    → ((place : Place) (symbol : Symbol) → term ≡ code.Interface place symbol → ⊥)
    → ((symbol : Symbol) → term ≡ code.Class symbol → ⊥)
    → false ≡ fits declarations (PlainClass name) (plain (type_tree names term))
unfolding fits
class_apart declarations name names (code.Unresolved' place symbol shape row) not_interface not_class =
    spine_cases (λ other. false ≡ fits declarations (PlainClass name) other) (λ n. refl) (λ h a. refl)
    (name_of names symbol)
    (plains (type_row names row))
class_apart declarations name names (code.Data' place symbol shape row) not_interface not_class =
    spine_cases (λ other. false ≡ fits declarations (PlainClass name) other) (λ n. refl) (λ h a. refl)
    (name_of names symbol)
    (plains (type_row names row))
class_apart declarations name names (code.Interface place symbol) not_interface not_class =
    absurd (not_interface place symbol refl)
class_apart declarations name names (code.Class symbol) not_interface not_class = absurd (not_class symbol refl)
class_apart declarations name names term not_interface not_class = refl

-- `null` is not of another type than an interface or `Fut`
pub null_apart : (names : List Name) (term : TypeTerm)
    → ((place : Place) (value : Box TypeTerm Global) → term ≡ code.Fut place value → ⊥)
    → ((place : Place) (symbol : Symbol) → term ≡ code.Interface place symbol → ⊥)
    → (term ≡ code.Null → ⊥)
    → false ≡ takes_null (plain (type_tree names term))
null_apart names (code.Unresolved' place symbol shape row) not_future not_interface not_null =
    spine_cases (λ other. false ≡ takes_null other) (λ n. refl) (λ h a. refl) (name_of names symbol)
    (plains (type_row names row))
null_apart names (code.Data' place symbol shape row) not_future not_interface not_null =
    spine_cases (λ other. false ≡ takes_null other) (λ n. refl) (λ h a. refl) (name_of names symbol)
    (plains (type_row names row))
null_apart names (code.Fut' place at value) not_future not_interface not_null =
    absurd (not_future place (record { ptr = at.ptr; alloc = at.alloc; value = value }) refl)
null_apart names (code.Interface place symbol) not_future not_interface not_null =
    absurd (not_interface place symbol refl)
null_apart names code.Null not_future not_interface not_null = absurd (not_null refl)
null_apart names term not_future not_interface not_null = refl
