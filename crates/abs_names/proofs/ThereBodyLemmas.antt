-- Bodies at their beginning: their parameters, the fields of their class and the type parameters are there.
use Rattle.std.proofs.Common.{◌≡◌, ℕ, ◌+◌, ◌<◌, ◌≤◌, Bool, true, false, List, [], ◌∷◌, refl, sym, ap, ◌∙◌, subst, length, length-append, nat_lt, ltb-true, is_some, arith}
use Rattle.std.specs.Prelude.{Option, Some, None, if◌then◌else◌}
use Rattle.std.proofs.lemmas.Bool.{true≢false}
use Rattle.std.proofs.lemmas.List.FromFn.{length-map-range_with_len}
use Rattle.std.proofs.lemmas.Option.{none-some, cond_some}
use Rattle.abs_program.specs.Slots.{statements_slots, param_slots, body_slots}
use Rattle.abs_tree.specs.Syntax.{Name, VariableTree, Unresolved, AtSlot, AtBound, AtField, Statements, ParamTree, DeclaredTree, MemberTree, FieldTree, MethodTree}
use Rattle.abs_tree.specs.SyntaxSizes.{fields_among}
use Rattle.abs_program.specs.Tables.{Table, meaning_of, with_first}
use Rattle.abs_program.specs.Whole.{Inside, VariableIsThere, StatementsAreThere}
use Rattle.abs_tree.specs.declared.syntax.slot.Slot.{Slot}
use Rattle.abs_tree.specs.declared.syntax.slot.Slot.TheVariants.{Parameter}
use Rattle.abs_names.specs.NameOffences.{statements_offences}
use Rattle.abs_names.specs.Resolution.{resolved_params, resolved_statements}
use Rattle.abs_names.specs.Scopes.{Meanings, Scope, has_this, has_task, visible_field, bound_count, with_meaning, with_params, body_scope, with_field, with_param_fields, with_member_fields, class_fields}
use Rattle.abs_names.specs.TypeNames.{Around, with_type_params, around_of}
use Rattle.abs_names.specs.declared.scope.Routine.{Routine}
use Rattle.abs_names.specs.declared.scope.Routine.TheVariants.{Main, Method, Function, Initial}
use Rattle.abs_names.proofs.ParamLemmas.{params_length}
use Rattle.abs_names.proofs.SlotLemmas.{statements_kept}
use Rattle.abs_names.proofs.ThereScopeLemmas.{Agrees, newest_or}
use Rattle.abs_names.proofs.ThereStatementLemmas.{statements_there}
use Rattle.abs_names.proofs.ThereTypeLemmas.{Surrounds}

-- each meaning of a name is of this kind
abbrev pub EachIs : {A : Type 0} → (A → Type 0) → List (Name × A) → Type 0
EachIs {A} P known = (name : Name) (meaning : A) → meaning_of known name ≡ Some meaning → P meaning

none_is : {A : Type 0} (P : A → Type 0) → EachIs P []
none_is P name meaning found = absurd (none-some meaning found)

-- so are those with a new meaning of this kind
newest_is : {A : Type 0} (P : A → Type 0) (known : List (Name × A)) (name : Name) (meaning : A) → P meaning
    → EachIs P known → EachIs P ((name, meaning) ∷ known)
newest_is P known name meaning new old other older = newest_or P known name other meaning older new (old other older)

first_or_not : {A : Type 0} (P : A → Type 0) (known : List (Name × A)) (name : Name) (meaning : A) (taken : Bool)
    → P meaning → EachIs P known → EachIs P (if taken then known else (name, meaning) ∷ known)
first_or_not P known name meaning true new old = old
first_or_not P known name meaning false new old = newest_is P known name meaning new old

first_is : {A : Type 0} (P : A → Type 0) (known : List (Name × A)) (name : Name) (meaning : A) → P meaning
    → EachIs P known → EachIs P (with_first known name meaning)
first_is P known name meaning new old =
    first_or_not P known name meaning (is_some (meaning_of known name)) new old

-- type parameters have indices below their number
type_params_are : (limit index : ℕ) (known : Table ℕ) (type_params : List DeclaredTree)
    → index + length type_params ≤ limit → EachIs (λ (parameter : ℕ). parameter < limit) known
    → EachIs (λ (parameter : ℕ). parameter < limit) (with_type_params index known type_params)
type_params_are limit index known [] fits are = are
type_params_are limit index known (declared ∷ others) fits are =
    type_params_are limit (index + 1) (with_first known declared.name index) others (omega (arith, fits))
    (first_is (λ (parameter : ℕ). parameter < limit) known declared.name index (omega (arith, fits)) are)

-- what is around the parts of a declaration
pub surrounds_of : (inside : Inside) (type_params : List DeclaredTree) → length type_params ≡ inside.type_params
    → Surrounds inside (around_of inside.spaces type_params)
surrounds_of inside type_params counted = record {
  spaces = refl;
  type_params = type_params_are inside.type_params 0 [] type_params (omega (arith, counted))
      (none_is (λ (parameter : ℕ). parameter < inside.type_params));
}

-- a field with an index below this number
abbrev pub IsField : ℕ → VariableTree → Type 0
IsField count (AtField field) = field < count
IsField count (AtSlot slot) = ⊥
IsField count (AtBound depth) = ⊥
IsField count (Unresolved name) = ⊥

field_is : (count : ℕ) (known : Meanings) (variable : VariableTree) (index : ℕ) → index < count
    → EachIs (IsField count) known → EachIs (IsField count) (with_field known variable index)
field_is count known (Unresolved name) index below are = first_is (IsField count) known name (AtField index) below are
field_is count known (AtSlot slot) index below are = are
field_is count known (AtBound depth) index below are = are
field_is count known (AtField field) index below are = are

param_fields_are : (count : ℕ) (known : Meanings) (index : ℕ) (params : List ParamTree)
    → index + length params ≤ count → EachIs (IsField count) known
    → EachIs (IsField count) (with_param_fields known index params)
param_fields_are count known index [] fits are = are
param_fields_are count known index (param ∷ others) fits are =
    param_fields_are count (with_field known param.variable index) (index + 1) others (omega (arith, fits))
    (field_is count known param.variable index (omega (arith, fits)) are)

member_fields_are : (count : ℕ) (known : Meanings) (index : ℕ) (members : List MemberTree)
    → index + fields_among members ≤ count → EachIs (IsField count) known
    → EachIs (IsField count) (with_member_fields known index members)
member_fields_are count known index [] fits are = are
member_fields_are count known index (FieldTree type name initial ∷ others) fits are =
    member_fields_are count (with_field known (Unresolved name.name) index) (index + 1) others (omega (arith, fits))
    (field_is count known (Unresolved name.name) index (omega (arith, fits)) are)
member_fields_are count known index (MethodTree signature end body ∷ others) fits are =
    member_fields_are count known index others fits are

-- the fields of a class have indices below their number
pub class_fields_are : (count : ℕ) (params : List ParamTree) (members : List MemberTree)
    → length params + fields_among members ≤ count → EachIs (IsField count) (class_fields params members)
class_fields_are count params members fits =
    member_fields_are count (with_param_fields [] 0 params) (length params) members fits
    (param_fields_are count [] 0 params (omega (arith, fits)) (none_is (IsField count)))

-- What a routine sees of a class is there.
pub record FieldsAre (inside : Inside) (routine : Routine) (known : Meanings) : Type 0 where
  pub fields : (name : Name) (field : VariableTree) → has_this routine ≡ true → meaning_of known name ≡ Some field
      → VariableIsThere inside 0 field
  pub seen : (name : Name) (field : VariableTree) → visible_field routine (meaning_of known name) ≡ Some field
      → VariableIsThere inside 0 field

-- outside of classes it sees none
pub main_fields : (inside : Inside) → FieldsAre inside Main []
main_fields inside = record {
  fields = λ name field this found. absurd (none-some field found);
  seen = λ name field found. absurd (none-some field found);
}

pub function_fields : (inside : Inside) → FieldsAre inside Function []
function_fields inside = record {
  fields = λ name field this found. absurd (none-some field found);
  seen = λ name field found. absurd (none-some field found);
}

-- a method sees all
method_field : (inside : Inside) (field : VariableTree) → IsField inside.fields field → VariableIsThere inside 0 field
method_field inside (AtField field) below = below
method_field inside (AtSlot slot) below = absurd below
method_field inside (AtBound depth) below = absurd below
method_field inside (Unresolved name) below = absurd below

pub method_fields : (inside : Inside) (known : Meanings) → EachIs (IsField inside.fields) known
    → FieldsAre inside Method known
method_fields inside known are = record {
  fields = λ name field this found. method_field inside field (are name field found);
  seen = λ name field found. method_field inside field (are name field found);
}

-- an initial value sees those before it
seen_before : (inside : Inside) (found : Option VariableTree) (field : VariableTree)
    → visible_field (Initial inside.slots) found ≡ Some field → VariableIsThere inside 0 field
seen_before inside None field seen = absurd (none-some field seen)
seen_before inside (Some (AtSlot slot)) field seen = absurd (none-some field seen)
seen_before inside (Some (AtBound depth)) field seen = absurd (none-some field seen)
seen_before inside (Some (Unresolved name)) field seen = absurd (none-some field seen)
seen_before inside (Some (AtField index)) field seen =
    let both = cond_some (nat_lt index inside.slots) (AtSlot index) field seen in
    subst (VariableIsThere inside 0) both.1 (ltb-true index inside.slots both.0)

pub initial_fields : (inside : Inside) (known : Meanings) → FieldsAre inside (Initial inside.slots) known
initial_fields inside known = record {
  fields = λ name field this found. absurd (true≢false (sym this));
  seen = λ name field. seen_before inside (meaning_of known name) field;
}

-- What a body begins with is there.
pub record Begins (inside : Inside) (around : Around) (routine : Routine) (fields : Meanings) : Type 0 where
  pub around_is : Surrounds inside around
  pub this : has_this routine ≡ inside.has_this
  pub task : has_task routine ≡ inside.has_task
  pub fields_are : FieldsAre inside routine fields

-- parameters are slots of the body
meaning_is : (inside : Inside) (known : Meanings) (variable : VariableTree) (slot : ℕ) → slot < inside.slots
    → EachIs (VariableIsThere inside 0) known
    → EachIs (VariableIsThere inside 0) (with_meaning known variable (AtSlot slot))
meaning_is inside known (Unresolved name) slot below are =
    newest_is (VariableIsThere inside 0) known name (AtSlot slot) below are
meaning_is inside known (AtSlot other) slot below are = are
meaning_is inside known (AtBound depth) slot below are = are
meaning_is inside known (AtField field) slot below are = are

params_are : (inside : Inside) (known : Meanings) (index : ℕ) (params : List ParamTree)
    → index + length params ≤ inside.slots → EachIs (VariableIsThere inside 0) known
    → EachIs (VariableIsThere inside 0) (with_params known index params)
params_are inside known index [] fits are = are
params_are inside known index (param ∷ others) fits are =
    params_are inside (with_meaning known param.variable (AtSlot index)) (index + 1) others (omega (arith, fits))
    (meaning_is inside known param.variable index (omega (arith, fits)) are)

-- none of them is a bound variable
meaning_bound : (known : Meanings) (variable : VariableTree) (slot : ℕ)
    → bound_count (with_meaning known variable (AtSlot slot)) ≡ bound_count known
meaning_bound known (Unresolved name) slot = refl
meaning_bound known (AtSlot other) slot = refl
meaning_bound known (AtBound depth) slot = refl
meaning_bound known (AtField field) slot = refl

params_bound : (known : Meanings) (index : ℕ) (params : List ParamTree)
    → bound_count (with_params known index params) ≡ bound_count known
params_bound known index [] = refl
params_bound known index (param ∷ others) =
    params_bound (with_meaning known param.variable (AtSlot index)) (index + 1) others
    ∙ meaning_bound known param.variable index

-- the scope at the beginning of a body
pub body_agrees : (inside : Inside) (around : Around) (routine : Routine) (fields : Meanings) (params : List ParamTree)
    → Begins inside around routine fields → length params ≤ inside.slots
    → Agrees inside 0 (body_scope around routine fields params)
body_agrees inside around routine fields params begins fits = record {
  around = begins.around_is;
  this = begins.this;
  task = begins.task;
  count = params_bound [] 0 params;
  variables = params_are inside [] 0 params (omega (arith, fits)) (none_is (VariableIsThere inside 0));
  fields = begins.fields_are.fields;
  seen = begins.fields_are.seen;
}

-- how many slots a resolved body has
body_length : (around : Around) (scope : Scope) (params : List ParamTree) (body : Statements)
    → length (body_slots (length (resolved_params around AtSlot 0 params))
    (resolved_statements scope (length params) body)) ≡ length params + length (statements_slots body)
body_length around scope params body =
    let count = length (resolved_params around AtSlot 0 params) in
    let kept = ap (λ (slots : List Slot). length slots) (statements_kept scope (length params) body) in
    let long = length-append (param_slots count)
    (statements_slots (resolved_statements scope (length params) body)) in
    let own = length-map-range_with_len Parameter 0 count in
    let same = params_length around AtSlot 0 params in
    omega (arith, kept, long, own, same)

-- a body without a name offence
pub body_there : (inside : Inside) (around : Around) (routine : Routine) (fields : Meanings) (params : List ParamTree)
    (body : Statements) → Begins inside around routine fields
    → statements_offences (body_scope around routine fields params) (length params) body ≡ []
    → length (body_slots (length (resolved_params around AtSlot 0 params))
    (resolved_statements (body_scope around routine fields params) (length params) body)) ≡ inside.slots
    → StatementsAreThere inside
    (resolved_statements (body_scope around routine fields params) (length params) body)
body_there inside around routine fields params body begins none counted =
    let scope = body_scope around routine fields params in
    let long = body_length around scope params body in
    statements_there inside scope (length params) body
    (body_agrees inside around routine fields params begins (omega (arith, long, counted))) none
    (omega (arith, long, counted))
