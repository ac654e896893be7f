-- How parameters are resolved, and parameters of which a prefix are visible as slots or known as fields.
use Rattle.std.proofs.Common.{◌≡◌, ℕ, ◌+◌, ◌<◌, List, [], ◌∷◌, ◌++◌, refl, sym, ap, ◌∙◌, subst, length, get_or, drop, map, append_assoc, suc}
use Rattle.std.specs.List.{range_with_len}
use Rattle.std.proofs.lemmas.List.{length-append, length-map}
use Rattle.std.proofs.lemmas.List.FromFn.{length-map-range_with_len}
use Rattle.abs_program.specs.Slots.{param_slots}
use Rattle.abs_tree.specs.Syntax.{Name, VariableTree, AtSlot, ParamTree}
use Rattle.abs_tree.specs.SyntaxViews.{variable_tree, param_tree}
use Rattle.abs_tree.specs.declared.syntax.declaration.Param.{Param}
use Rattle.abs_tree.specs.declared.syntax.slot.Slot.{Slot}
use Rattle.abs_tree.specs.declared.syntax.slot.Slot.TheVariants.{Parameter}
use Rattle.abs_names.specs.NameOffences.{params_offences}
use Rattle.abs_names.specs.Resolution.{resolved_params}
use Rattle.abs_names.specs.Scopes.{Meanings, Scope, with_variable, with_params, with_field, with_param_fields}
use Rattle.abs_names.specs.TypeNames.{Around, resolved_type, type_offences}
use Rattle.abs_names.specs.Visible.{Names, Visible}
use Rattle.abs_names.specs.declared.scope.Routine.{Routine}
use Rattle.abs_names.proofs.InPlaceLemmas.{ItemResolution}
use Rattle.list_facts.proofs.EntryLemmas.{drop_item}

-- there are as many parameters as before
pub params_length : (around : Around) (make : ℕ → VariableTree) (index : ℕ) (params : List ParamTree)
    → length (resolved_params around make index params) ≡ length params
params_length around make index [] = refl
params_length around make index (param ∷ others) = ap suc (params_length around make (index + 1) others)

-- there are as many where their trees are those of resolved parameters
pub params_count : (around : Around) (make : ℕ → VariableTree) (before after : List Name) (params now : List Param)
    → map (param_tree after) now ≡ resolved_params around make 0 (map (param_tree before) params)
    → length now ≡ length params
params_count around make before after params now made =
    sym (length-map now (param_tree after))
    ∙ (ap length made
    ∙ (params_length around make 0 (map (param_tree before) params) ∙ length-map params (param_tree before)))

-- parameters, which become the slots or fields of their indices
abbrev pub param_resolution : (ℕ → VariableTree) → ItemResolution Param ParamTree Visible
param_resolution make = record {
  before = λ v. param_tree v.names.before;
  after = λ v. param_tree v.names.after;
  resolved = λ v index tree. record {
    type_of = resolved_type v.scope.around tree.type_of;
    place = tree.place;
    variable = make index;
  };
  all_resolved = λ v index trees. resolved_params v.scope.around make index trees;
  offences = λ v index tree. type_offences v.scope.around tree.type_of;
  all_offences = λ v index trees. params_offences v.scope.around trees;
  next = λ v index tree. index + 1;
  none_resolved = λ v index. refl;
  more_resolved = λ v index tree trees. refl;
  none_offend = λ v index. refl;
  more_offend = λ v index tree trees. refl;
}

-- Parameters before an index are visible as slots; these are the scope and the slots now.
pub record BeginSoFar (routine : Routine) (start : Visible) (params : List Param) (index : ℕ) (now : Visible)
    (slots : List Slot) : Type 0 where
  pub names_are : now.names ≡ start.names
  pub around_is : now.scope.around ≡ start.scope.around
  pub routine_is : now.scope.routine ≡ routine
  pub fields_are : now.scope.fields ≡ start.scope.fields
  pub variables_are : with_params now.scope.variables index (map (param_tree start.names.before) (drop index params))
      ≡ with_params [] 0 (map (param_tree start.names.before) params)
  pub count : length slots ≡ index
  pub slots_are : slots ++ map Parameter (range_with_len index (length (drop index params)))
      ≡ param_slots (length params)

-- one more parameter is visible
pub begin_step : {routine : Routine} {start now after : Visible} {params : List Param} {index : ℕ}
    {slots later : List Slot} (item : Param) → BeginSoFar routine start params index now slots
    → index < length params → item ≡ get_or params index item → later ≡ slots ++ Parameter index ∷ []
    → after.names ≡ now.names → after.scope ≡ with_variable now.scope (variable_tree now.names.before item.variable)
    (AtSlot index)
    → BeginSoFar routine start params (index + 1) after later
begin_step {routine} {start} {now} {after} {params} {index} {slots} {later} item h there is grown same move =
    let tree = param_tree start.names.before in
    let rest = drop (index + 1) params in
    let split = drop_item params index item there is in
    let moved = subst (λ (ns : Names).
    after.scope ≡ with_variable now.scope (variable_tree ns.before item.variable) (AtSlot index)) h.names_are move in
    record {
      names_are = same ∙ h.names_are;
      around_is = ap (λ (s : Scope). s.around) moved ∙ h.around_is;
      routine_is = ap (λ (s : Scope). s.routine) moved ∙ h.routine_is;
      fields_are = ap (λ (s : Scope). s.fields) moved ∙ h.fields_are;
      variables_are = ap (λ (s : Scope). with_params s.variables (index + 1) (map tree rest)) moved
          ∙ (ap (λ (ps : List Param). with_params now.scope.variables index (map tree ps)) (sym split)
          ∙ h.variables_are);
      count = ap length grown
          ∙ (length-append slots (Parameter index ∷ []) ∙ ap (λ (n : ℕ). n + 1) h.count);
      slots_are = ap (λ (xs : List Slot). xs ++ map Parameter (range_with_len (index + 1) (length rest))) grown
          ∙ (append_assoc slots (Parameter index ∷ []) (map Parameter (range_with_len (index + 1) (length rest)))
          ∙ (ap (λ (ps : List Param). slots ++ map Parameter (range_with_len index (length ps))) (sym split)
          ∙ h.slots_are));
    }

-- Parameters before an index are fields; this is the scope now.
pub record FieldsSoFar (start : Visible) (params : List Param) (index : ℕ) (now : Visible) : Type 0 where
  pub names_are : now.names ≡ start.names
  pub around_is : now.scope.around ≡ start.scope.around
  pub routine_is : now.scope.routine ≡ start.scope.routine
  pub variables_are : now.scope.variables ≡ start.scope.variables
  pub fields_are : with_param_fields now.scope.fields index (map (param_tree start.names.before) (drop index params))
      ≡ with_param_fields start.scope.fields 0 (map (param_tree start.names.before) params)

-- one more parameter is a field
pub fields_step : {start now after : Visible} {params : List Param} {index : ℕ} (item : Param)
    → FieldsSoFar start params index now → index < length params → item ≡ get_or params index item
    → after.names ≡ now.names
    → after.scope ≡ record {
      around = now.scope.around;
      routine = now.scope.routine;
      fields = with_field now.scope.fields (variable_tree now.names.before item.variable) index;
      variables = now.scope.variables;
    }
    → FieldsSoFar start params (index + 1) after
fields_step {start} {now} {after} {params} {index} item h there is same move =
    let tree = param_tree start.names.before in
    let rest = drop (index + 1) params in
    let moved = subst (λ (ns : Names).
    after.scope.fields ≡ with_field now.scope.fields (variable_tree ns.before item.variable) index) h.names_are
    (ap (λ (s : Scope). s.fields) move) in
    record {
      names_are = same ∙ h.names_are;
      around_is = ap (λ (s : Scope). s.around) move ∙ h.around_is;
      routine_is = ap (λ (s : Scope). s.routine) move ∙ h.routine_is;
      variables_are = ap (λ (s : Scope). s.variables) move ∙ h.variables_are;
      fields_are = ap (λ (known : Meanings). with_param_fields known (index + 1) (map tree rest)) moved
          ∙ (ap (λ (ps : List Param). with_param_fields now.scope.fields index (map tree ps))
          (sym (drop_item params index item there is))
          ∙ h.fields_are);
    }

-- a body has begun with as many slots as it has parameters
pub slots_count : {slots : List Slot} {given params : List Param} (names : List Name)
    → slots ≡ param_slots (length given) → given ≡ params
    → length slots ≡ length (map (param_tree names) params)
slots_count {slots} {given} {params} names are same =
    ap length are
    ∙ (length-map-range_with_len Parameter 0 (length given)
    ∙ (ap length same ∙ sym (length-map params (param_tree names))))
