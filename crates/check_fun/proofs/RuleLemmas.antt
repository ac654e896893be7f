-- The typing rules, by what a checker finds for the parts.
--
--   `index_at`, `index_of`                     the index with a place, and that for a variable
--   `variable_found`, `bound_is_there`         the type of a variable, and whether a bound one is there
--   `stands_for`                               an index that is found stands for its type
--   `declarations_are`, `declarations_stay`    the declarations of the table are those of the context
--   `fit_found`                                whether a type fits another one
--   `let_found`, `if_found`                    the rules of `let` and `if`
use mathlib.Core.Logic.{∥∥₁_elim}
use Rattle.std.proofs.Common.{◌≡◌, ℕ, zero, suc, Bool, true, false, List, [], ◌∷◌, All, Option, Some, None, length, refl, sym, ap, ◌∙◌, subst}
use Rattle.std.proofs.lemmas.Option.{none-some, same_Some, slice_get-map}
use Rattle.std.proofs.lemmas.List.{length-map}
use Rattle.std.proofs.lemmas.List.Elements.{All-head, All-tail}
use Rattle.std.specs.Prelude.{slice_get, option_map, option_and_then, is_some, nat_lt, IfSome, if◌then◌else◌}
use Rattle.abs_tree.specs.SyntaxViews.{variable_tree}
use Rattle.abs_tree.specs.Syntax.{DeclTree}
use Rattle.abs_tree.specs.declared.syntax.variable.Variable.{Variable}
use Rattle.abs_tree.specs.declared.syntax.variable.Variable.TheVariants as variable
use Rattle.abs_types.specs.Joins.{join_of}
use Rattle.abs_types.specs.OperatorTypes.{bool_type}
use Rattle.abs_types.specs.PlainTypes.{PlainType}
use Rattle.abs_types.specs.Subtyping.{fits}
use Rattle.abs_types.specs.TypeShapes.{type_at, IsAmong}
use Rattle.abs_types.specs.TypeTables.{declarations_of, types_in}
use Rattle.abs_types.specs.Typing.{known_at, if_type, let_type, variable_type}
use Rattle.abs_types.specs.declared.table.shape.TypeIndex.{TypeIndex}
use Rattle.check_fun.proofs.ContextLemmas.{finds_stays, knows_stays}
use Rattle.check_fun.proofs.FoundLemmas.{finds_none}
use Rattle.check_fun.specs.Contexts.{context_in, types_known, Context, Finds, Knows, Stays}
use Rattle.check_fun.specs.declared.checker.Checker.{Checker}
use Rattle.list_facts.proofs.EntryLemmas.{is_some-slice_get}
use Rattle.abs_types.proofs.MemoryLemmas.{among-prop}

-- the index of a type with a place among these, if there is one
abbrev pub index_at : List (Option TypeIndex) → ℕ → Option TypeIndex
index_at indices place = option_and_then (λ found. found) (slice_get indices place)

-- the index for a variable
abbrev pub index_of : Checker → Variable → Option TypeIndex
index_of checker (variable.Slot slot) = index_at checker.slots.items slot
index_of checker (variable.Bound depth) = index_at checker.bound.items depth
index_of checker (variable.Field field) = slice_get checker.fields.items field
index_of checker (variable.Unresolved symbol) = None

-- it stands for the type with this place
known_at_is : (types : List PlainType) (indices : List (Option TypeIndex)) (place : ℕ)
    → option_map (type_at types) (index_at indices place) ≡ known_at (types_known types indices) place
known_at_is types [] place = refl
known_at_is types (None ∷ others) zero = refl
known_at_is types (Some index ∷ others) zero = refl
known_at_is types (first ∷ others) (suc place) = known_at_is types others place

-- an index with a place among indices of types is that of a type
index_at_among : (types : List PlainType) (indices : List (Option TypeIndex)) (place : ℕ)
    → All (λ (one : Option TypeIndex). IfSome one (IsAmong types)) indices
    → IfSome (index_at indices place) (IsAmong types)
index_at_among types [] place all = tt
index_at_among types (None ∷ others) zero all = tt
index_at_among types (Some index ∷ others) zero all =
    All-head (λ (one : Option TypeIndex). IfSome one (IsAmong types)) (Some index) others all
index_at_among types (first ∷ others) (suc place) all = index_at_among types others place
    (All-tail (λ (one : Option TypeIndex). IfSome one (IsAmong types)) first others all)

-- the same of indices that are all there
field_among : (types : List PlainType) (indices : List TypeIndex) (place : ℕ) → All (IsAmong types) indices
    → IfSome (slice_get indices place) (IsAmong types)
field_among types [] place all = tt
field_among types (first ∷ others) zero all = All-head (IsAmong types) first others all
field_among types (first ∷ others) (suc place) all =
    field_among types others place (All-tail (IsAmong types) first others all)

-- the index for a variable stands for its type, as the checker knows it
variable_in : (checker : Checker) (name : Variable)
    → Finds checker (index_of checker name) (variable_type (context_in checker).frame (context_in checker).bound
    (variable_tree (context_in checker).names name))
unfolding context_in
variable_in checker (variable.Slot slot) = record {
  found_is = record {
    among = ∥∥₁_elim checker.slots_are (among-prop (types_in checker.table) (index_at checker.slots.items slot))
        (λ all. index_at_among (types_in checker.table) checker.slots.items slot all);
  };
  is = known_at_is (types_in checker.table) checker.slots.items slot;
}
variable_in checker (variable.Bound depth) = record {
  found_is = record {
    among = ∥∥₁_elim checker.bound_are (among-prop (types_in checker.table) (index_at checker.bound.items depth))
        (λ all. index_at_among (types_in checker.table) checker.bound.items depth all);
  };
  is = known_at_is (types_in checker.table) checker.bound.items depth;
}
variable_in checker (variable.Field field) = record {
  found_is = record {
    among = ∥∥₁_elim checker.fields_are (among-prop (types_in checker.table) (slice_get checker.fields.items field))
        (λ all. field_among (types_in checker.table) checker.fields.items field all);
  };
  is = sym (slice_get-map (type_at (types_in checker.table)) checker.fields.items field);
}
variable_in checker (variable.Unresolved symbol) = record { found_is = record { among = tt }; is = refl }

-- the index for a variable stands for its type
pub variable_found : {checker : Checker} {context : Context} (name : Variable) → Knows checker context
    → Finds checker (index_of checker name) (variable_type context.frame context.bound
    (variable_tree context.names name))
variable_found {checker} name knows =
    subst (λ (now : Context). Finds checker (index_of checker name) (variable_type now.frame now.bound
    (variable_tree now.names name))) knows.is (variable_in checker name)

-- a bound variable is there if its depth is below the count of those that are bound
pub bound_is_there : {checker : Checker} {context : Context} (depth : ℕ) → Knows checker context
    → nat_lt depth (length checker.bound.items) ≡ is_some (slice_get context.bound depth)
unfolding context_in
bound_is_there {checker} depth knows =
    subst (λ (now : Context). nat_lt depth (length checker.bound.items) ≡ is_some (slice_get now.bound depth)) knows.is
    (rw (← length-map checker.bound.items (option_map (type_at (types_in checker.table))))
    (is_some-slice_get (types_known (types_in checker.table) checker.bound.items) depth))

-- a test decides whether an index is found, and whether there is a type
if_finds : {checker : Checker} {found : Option TypeIndex} {type : Option PlainType} (reported : Bool)
    → Finds checker found type → Finds checker (if reported then found else None) (if reported then type else None)
if_finds true finds = finds
if_finds false finds = finds_none

-- an index that is found stands for a type
pub stands_for : {checker : Checker} {index : TypeIndex} {type : PlainType} → Finds checker (Some index) (Some type)
    → type_at (types_in checker.table) index ≡ type
stands_for finds = same_Some _ _ finds.is

-- the declarations are those of the program
pub declarations_are : {checker : Checker} {context : Context} → Knows checker context
    → declarations_of checker.table ≡ context.declarations
unfolding context_in
declarations_are knows = ap (λ (now : Context). now.declarations) knows.is

-- the declarations before some steps are those after them
pub declarations_stay : {before now : Checker} {context : Context} → Stays before now → Knows now context
    → declarations_of before.table ≡ context.declarations
declarations_stay stays knows = declarations_are (record { is = sym stays.context_is ∙ knows.is })

-- whether a type fits another one
pub fit_found : {checker : Checker} {context : Context} {one other : TypeIndex} {left right : PlainType} {fit : Bool}
    → fit ≡ fits (declarations_of checker.table) (type_at (types_in checker.table) one)
    (type_at (types_in checker.table) other) → Knows checker context → Finds checker (Some one) (Some left)
    → Finds checker (Some other) (Some right) → fit ≡ fits context.declarations left right
fit_found is knows first second =
    rw (← declarations_are knows, ← stands_for first, ← stands_for second) is

-- the rule of `let`, where the value has a type
let_is : (declarations : List DeclTree) (declared given : PlainType) (gives : Option PlainType) (fit : Bool)
    → fit ≡ fits declarations given declared
    → let_type declarations declared (Some given) gives ≡ (if fit then gives else None)
let_is declarations declared given None true is = refl
let_is declarations declared given None false is = refl
let_is declarations declared given (Some body) fit is = rw (← is) refl

-- the rule of `let`
pub let_found : {checker : Checker} {context : Context} {value declared : TypeIndex} {body : Option TypeIndex}
    {given gives : Option PlainType} {type : PlainType} {fit : Bool}
    → fit ≡ fits (declarations_of checker.table) (type_at (types_in checker.table) value)
    (type_at (types_in checker.table) declared) → Knows checker context → Finds checker (Some value) given
    → Finds checker (Some declared) (Some type) → Finds checker body gives
    → Finds checker (if fit then body else None) (let_type context.declarations type given gives)
let_found {given = None} is knows first second third = absurd (none-some _ (sym first.is))
let_found {context = context} {given = Some found} {gives = gives} {type = type} {fit = fit} is knows first second
    third =
    rw (let_is context.declarations type found gives fit (fit_found is knows first second)) (if_finds fit third)

-- the rule of `if`, where its parts have types
pub if_found : {before now : Checker} {context : Context} {condition first second : Option TypeIndex}
    {met taken left asked : TypeIndex} {given one other : Option PlainType} {fit : Bool} → Stays before now
    → condition ≡ Some met → first ≡ Some taken → second ≡ Some left
    → fit ≡ fits (declarations_of now.table) (type_at (types_in now.table) met) (type_at (types_in now.table) asked)
    → Finds now (Some asked) (Some bool_type) → Knows before context → Finds before condition given
    → Finds before first one → Finds before second other
    → if_type context.declarations given one other ≡ (if fit then join_of context.declarations
    (type_at (types_in now.table) taken) (type_at (types_in now.table) left) else None)
if_found {given = None} stays condition_is first_is second_is is wanted knows of_condition of_first of_second =
    absurd (none-some _ (sym (rw condition_is at of_condition.is)))
if_found {given = Some _} {one = None} stays condition_is first_is second_is is wanted knows of_condition of_first
    of_second =
    absurd (none-some _ (sym (rw first_is at of_first.is)))
if_found {given = Some _} {one = Some _} {other = None} stays condition_is first_is second_is is wanted knows
    of_condition of_first of_second =
    absurd (none-some _ (sym (rw second_is at of_second.is)))
if_found {given = Some _} {one = Some _} {other = Some _} stays condition_is first_is second_is is wanted knows
    of_condition of_first of_second =
    rw (
      stands_for (finds_stays stays (rw first_is at of_first)),
      stands_for (finds_stays stays (rw second_is at of_second)),
      fit_found is (knows_stays stays knows) (finds_stays stays (rw condition_is at of_condition)) wanted,
    ) refl
