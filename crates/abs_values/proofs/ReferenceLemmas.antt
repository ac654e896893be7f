-- Each reference inside the value that an expression gives is inside a value that the expression reads, whatever the
-- levels that are left.
--
--   `AllComeFrom`                      each reference inside a value comes from an expression
--   `comes_wider`                      what comes from a part comes from the whole
--   `comes_bound`, `comes_own`         what comes from a scope with more bound variables, or from arguments alone
--   `evaluate-reads`                   the law, by recursion on the levels
use Rattle.std.proofs.Common.{◌≡◌, ℕ, ◌+◌, zero, suc, List, [], ◌∷◌, Option, Some, None, ◌⊎◌, inl, inr, ⊎_elim, refl, sym, subst, length, nat_eq, nat_lt, IfSome, codes, bytes_eq, slice_get}
use Rattle.std.proofs.lemmas.Bool.{cond_both}
use Rattle.std.proofs.lemmas.Option.{none-some, same_Some}
use Rattle.abs_values.proofs.InsideLemmas.{inside-at, inside-is_at, HoldsNone}
use Rattle.abs_values.proofs.ListOutcomeLemmas.{AreGiven, outcomes_of-each}
use Rattle.abs_values.proofs.MatchingLemmas.{TakesFrom, matched-inside}
use Rattle.abs_values.proofs.OperationLemmas.{prefix_result-none, operators_outcome-gives}
use Rattle.abs_values.proofs.ResultLemmas.{IfGives, IfGives-at, IfAllGive-at, IfGives-then, outcome_after-gives, outcome_after_all-gives, string_result-gives, built_result-gives, read_result-gives, chosen_outcome-gives}
use Rattle.abs_values.specs.Evaluation.{Outcome, ends_with, evaluate, outcomes_of, read_result, branches_outcome, string_of_result, body_outcome, function_outcome, application_outcome}
use Rattle.abs_tree.specs.Limits.{application_limit}
use Rattle.abs_tree.specs.Names.{number_of_name}
use Rattle.abs_values.specs.Operations.{truth_of, matched}
use Rattle.abs_values.specs.Printed.{printed_form}
use Rattle.abs_values.specs.References.{Reference, IsIn, IsInAny, Reads, ReadsInAny, ReadsInBranch, ComesFrom, expr_tree_at}
use Rattle.abs_values.specs.Results.{Gives, Fails, AllGive}
use Rattle.abs_values.specs.Scopes.{FunctionBody, function_named, Library, Scope, own_scope, with_bound, Location, InSlot, InField, InBound, InThis, location_of, value_at}
use Rattle.abs_tree.specs.Syntax.{Name, ExprTree, LetIn, IfElse, OperatorsOf, Prefixed, NumberOf, StringOf, NullOf, DestinyOf, ThisOf, FieldOf, OwnCallOf, VariableOf, ApplyOf, BuildOf, CaseOf, ExprTrees, NoExpr, NextExpr, Branches, NoBranch, NextBranch}
use Rattle.abs_values.specs.ValueTrees.{ValueTree, StringValue, parts_of_list}
use Rattle.abs_values.specs.declared.evaluated.Fault.TheVariants as fault
use Rattle.list_facts.proofs.EntryLemmas.{slice_get-append}

-- each reference inside the value comes from the expression
abbrev pub AllComeFrom : Scope → ExprTree → ValueTree → Type 0
AllComeFrom scope expr_tree value = (reference : Reference) → IsIn reference value → ComesFrom scope expr_tree reference

-- what comes from a part of an expression comes from the whole
pub comes_wider : (scope : Scope) (part whole : ExprTree) (reference : Reference)
    → ((location : Location) → Reads location part → Reads location whole) → ComesFrom scope part reference
    → ComesFrom scope whole reference
comes_wider scope part whole reference wider comes =
    record {
      location = comes.location;
      is_read = wider comes.location comes.is_read;
      value = comes.value;
      there = comes.there;
      inside = comes.inside;
    }

-- what is inside a value at a location that is read comes from the expression
comes_at : (scope : Scope) (expr_tree : ExprTree) (location : Location) → Reads location expr_tree → (value : ValueTree)
    → value_at scope location ≡ Some value → AllComeFrom scope expr_tree value
comes_at scope expr_tree location reads value there reference inside =
    record { location = location; is_read = reads; value = value; there = there; inside = inside }

-- what is inside a value at a location of a scope with more bound variables is inside one of their values, or comes
-- from the scope without them
location_bound : (scope : Scope) (values : List ValueTree) (expr_tree : ExprTree) (location : Location)
    → Reads location expr_tree → (value : ValueTree) → value_at (with_bound scope values) location ≡ Some value
    → (reference : Reference) → IsIn reference value
    → ComesFrom scope expr_tree reference ⊎ IsInAny reference (parts_of_list values)
location_bound scope values expr_tree (InBound depth) reads value there reference inside =
    ⊎_elim (λ before. inl (comes_at scope expr_tree (InBound depth) reads value before reference inside))
    (λ new. inr (inside-at values new.0 value reference new.1 inside))
    (slice_get-append scope.bound values depth value there)
location_bound scope values expr_tree location reads value there reference inside =
    inl (comes_at scope expr_tree location reads value there reference inside)

-- what comes from an expression that sees more bound variables
pub comes_bound : (scope : Scope) (values : List ValueTree) (expr_tree : ExprTree) (reference : Reference)
    → ComesFrom (with_bound scope values) expr_tree reference
    → ComesFrom scope expr_tree reference ⊎ IsInAny reference (parts_of_list values)
comes_bound scope values expr_tree reference comes =
    location_bound scope values expr_tree comes.location comes.is_read comes.value comes.there reference comes.inside

-- in a scope of arguments alone there are values at slots only
pub own_slot : (values : List ValueTree) (location : Location) (value : ValueTree)
    → value_at (own_scope values) location ≡ Some value
    → (slot : ℕ) × (location ≡ InSlot slot) × (slice_get values slot ≡ Some value)
own_slot values (InSlot slot) value there = (slot, refl, there)
own_slot values (InField field) value there = absurd (none-some value there)
own_slot values (InBound depth) value there = absurd (none-some value there)
own_slot values InThis value there = absurd (none-some value there)

-- what comes from the body of a function is inside one of the arguments
pub comes_own : (values : List ValueTree) (expr_tree : ExprTree) (reference : Reference)
    → ComesFrom (own_scope values) expr_tree reference → IsInAny reference (parts_of_list values)
comes_own values expr_tree reference comes =
    let own = own_slot values comes.location comes.value comes.there in
    inside-at values own.0 comes.value reference own.2 comes.inside

-- what the expression at an index reads is read by one of the expressions
reads_at : (location : Location) (expr_trees : ExprTrees) (index : ℕ) (expr_tree : ExprTree)
    → expr_tree_at expr_trees index ≡ Some expr_tree → Reads location expr_tree → ReadsInAny location expr_trees
unfolding ReadsInAny
reads_at location NoExpr index expr_tree is reads = absurd (none-some expr_tree is)
reads_at location (NextExpr first others) zero expr_tree is reads =
    inl (subst (Reads location) (sym (same_Some first expr_tree is)) reads)
reads_at location (NextExpr first others) (suc index) expr_tree is reads =
    inr (reads_at location others index expr_tree is reads)

-- what is inside the value that a scope gives at a maybe location
read_result-reads : (scope : Scope) (expr_tree : ExprTree) (location : Option Location)
    → ((found : Location) → location ≡ Some found → Reads found expr_tree)
    → IfGives (read_result scope location) (AllComeFrom scope expr_tree)
read_result-reads scope expr_tree None reads = tt
read_result-reads scope expr_tree (Some location) reads =
    read_result-gives scope location (AllComeFrom scope expr_tree) (comes_at scope expr_tree location (reads location refl))

-- the outcome of branches is that of a branch, with values that are inside the one that is matched
branches_outcome-gives : (names : List Name) (give : List ValueTree → ExprTree → ℕ → Outcome) (branches : Branches)
    (value : ValueTree) (made : ℕ) (Holds : ValueTree → Type 0)
    → ((values : List ValueTree) (expr_tree : ExprTree)
    → ((location : Location) → Reads location expr_tree → ReadsInBranch location branches)
    → TakesFrom (λ reference. IsIn reference value) values → IfGives (give values expr_tree made).result Holds)
    → IfGives (branches_outcome names give branches value made).result Holds
unfolding ReadsInBranch
branches_outcome-gives names give NoBranch value made Holds each = tt
branches_outcome-gives names give (NextBranch pattern first others) value made Holds each =
    by_taken (matched names pattern value) refl (matched-inside names pattern value)
    (branches_outcome-gives names give others value made Holds
    (λ values expr_tree reads takes. each values expr_tree (λ location read. inr (reads location read)) takes))
  where
    by_taken : (taken : Option (List ValueTree)) → matched names pattern value ≡ taken
        → IfSome taken (TakesFrom (λ reference. IsIn reference value))
        → IfGives (branches_outcome names give others value made).result Holds
        → IfGives (branches_outcome names give (NextBranch pattern first others) value made).result Holds
    by_taken (Some values) is takes later = rw is (each values first (λ location read. inl read) takes)
    by_taken None is takes later = rw is later

-- `toString` gives a string
string_of_result-gives : (names : List Name) (values : List ValueTree) (Holds : ValueTree → Type 0)
    → ((bytes : List ℕ) → Holds (StringValue bytes)) → IfGives (string_of_result names values) Holds
string_of_result-gives names [] Holds string = tt
string_of_result-gives names (value ∷ []) Holds string =
    string_result-gives (printed_form names value) Holds (string (printed_form names value))
string_of_result-gives names (value ∷ other ∷ others) Holds string = tt

-- a declared function gives what its body gives for the arguments
body_outcome-gives : (give : List ValueTree → ExprTree → ℕ → Outcome) (values : List ValueTree)
    (function : Option FunctionBody) (made : ℕ) (Holds : ValueTree → Type 0)
    → ((expr_tree : ExprTree) → IfGives (give values expr_tree made).result Holds)
    → IfGives (body_outcome give values function made).result Holds
body_outcome-gives give values None made Holds body = tt
body_outcome-gives give values (Some function) made Holds body =
    cond_both (nat_eq (length values) function.arity) (give values function.value made)
    (ends_with (Fails fault.Mistyped) made) (λ outcome. IfGives outcome.result Holds) (λ _. body function.value)
    (λ _. tt)

-- an application gives a string, or what some body gives for the arguments
application_outcome-gives : (library : Library) (give : List ValueTree → ExprTree → ℕ → Outcome) (name : Name)
    (values : List ValueTree) (made : ℕ) (Holds : ValueTree → Type 0) → ((bytes : List ℕ) → Holds (StringValue bytes))
    → ((expr_tree : ExprTree) → IfGives (give values expr_tree (made + 1)).result Holds)
    → IfGives (application_outcome library give name values made).result Holds
application_outcome-gives library give name values made Holds string body =
    cond_both (nat_lt made application_limit) (function_outcome library give name values (made + 1))
    (ends_with (Fails fault.Calls) made) (λ outcome. IfGives outcome.result Holds)
    (λ _. cond_both (bytes_eq name (codes "toString"))
    (ends_with (string_of_result library.names values) (made + 1))
    (body_outcome give values (function_named library.functions name) (made + 1))
    (λ outcome. IfGives outcome.result Holds)
    (λ _. string_of_result-gives library.names values Holds string)
    (λ _. body_outcome-gives give values (function_named library.functions name) (made + 1) Holds body)) (λ _. tt)

module _ (library : Library) where
  -- with so many levels left each reference comes from the expression
  abbrev AllReads : ℕ → Type 0
  AllReads left = (scope : Scope) (expr_tree : ExprTree) (made : ℕ)
      → IfGives (evaluate library scope left expr_tree made).result (AllComeFrom scope expr_tree)

  -- what a part gives, in the whole
  part_reads : (left : ℕ) → AllReads left → (scope : Scope) (part whole : ExprTree) (made : ℕ)
      → ((location : Location) → Reads location part → Reads location whole)
      → IfGives (evaluate library scope left part made).result (AllComeFrom scope whole)
  part_reads left reads scope part whole made wider =
      IfGives-then (evaluate library scope left part made).result (AllComeFrom scope part) (AllComeFrom scope whole)
      (λ value comes reference inside. comes_wider scope part whole reference wider (comes reference inside))
      (reads scope part made)

  -- what a part gives that sees more bound variables, whose values come from the whole
  bound_reads : (left : ℕ) → AllReads left → (scope : Scope) (values : List ValueTree) (part whole : ExprTree) (made : ℕ)
      → ((location : Location) → Reads location part → Reads location whole)
      → TakesFrom (ComesFrom scope whole) values
      → IfGives (evaluate library (with_bound scope values) left part made).result (AllComeFrom scope whole)
  bound_reads left reads scope values part whole made wider takes =
      IfGives-then (evaluate library (with_bound scope values) left part made).result
      (AllComeFrom (with_bound scope values) part) (AllComeFrom scope whole)
      (λ value comes reference inside. ⊎_elim (comes_wider scope part whole reference wider) (takes reference)
      (comes_bound scope values part reference (comes reference inside)))
      (reads (with_bound scope values) part made)

  -- a part gives the value, and what is inside it comes from the whole
  value_reads : (left : ℕ) → AllReads left → (scope : Scope) (part whole : ExprTree) (made : ℕ) (value : ValueTree)
      → ((location : Location) → Reads location part → Reads location whole)
      → (evaluate library scope left part made).result ≡ Gives value → AllComeFrom scope whole value
  value_reads left reads scope part whole made value wider gives =
      IfGives-at (evaluate library scope left part made).result (AllComeFrom scope whole) value gives
      (part_reads left reads scope part whole made wider)

  -- several parts give the values, and what is inside these comes from the whole
  values_read : (left : ℕ) → AllReads left → (scope : Scope) (parts : ExprTrees) (whole : ExprTree) (made : ℕ)
      (values : List ValueTree) → ((location : Location) → ReadsInAny location parts → Reads location whole)
      → (outcomes_of (evaluate library scope left) parts made).results ≡ AllGive values
      → TakesFrom (ComesFrom scope whole) values
  values_read left reads scope parts whole made values wider gives reference inside =
      let at = inside-is_at values reference inside in
      let given = IfAllGive-at (outcomes_of (evaluate library scope left) parts made).results
      (AreGiven (evaluate library scope left) parts) values gives
      (outcomes_of-each (evaluate library scope left) parts made) at.index at.value at.there in
      value_reads left reads scope given.expr_tree whole given.applications at.value
      (λ location read. wider location (reads_at location parts at.index given.expr_tree given.there read)) given.gives
      reference at.inside

  -- one level more
  next_reads : (left : ℕ) → AllReads left → AllReads (suc left)
  unfolding evaluate Reads IsIn IsInAny
  next_reads left reads scope (NumberOf place number) made = λ reference inside. absurd inside
  next_reads left reads scope (StringOf place string) made =
      string_result-gives string (AllComeFrom scope (StringOf place string)) (λ reference inside. absurd inside)
  next_reads left reads scope (NullOf place) made = λ reference inside. absurd inside
  next_reads left reads scope (DestinyOf place) made = tt
  next_reads left reads scope (FieldOf place name_place name) made = tt
  next_reads left reads scope (OwnCallOf place method arguments) made = tt
  next_reads left reads scope (ThisOf place) made =
      read_result-reads scope (ThisOf place) (Some InThis) (λ found is. sym (same_Some InThis found is))
  next_reads left reads scope (VariableOf place variable) made =
      read_result-reads scope (VariableOf place variable) (location_of variable) (λ found is. is)
  next_reads left reads scope (LetIn place type variable_place variable value body) made =
      let whole = LetIn place type variable_place variable value body in
      outcome_after-gives (evaluate library scope left value made) _ (AllComeFrom scope whole)
      (λ found gives. bound_reads left reads scope (found ∷ []) body whole
      (evaluate library scope left value made).applications (λ location read. inr read)
      (λ reference inside. ⊎_elim
      (value_reads left reads scope value whole made found (λ location read. inl read) gives reference)
      (λ none. absurd none) inside))
  next_reads left reads scope (IfElse place condition first second) made =
      let whole = IfElse place condition first second in
      let now = (evaluate library scope left condition made).applications in
      outcome_after-gives (evaluate library scope left condition made) _ (AllComeFrom scope whole)
      (λ found gives. chosen_outcome-gives (evaluate library scope left) first second (truth_of library.names found) now
      (AllComeFrom scope whole) (part_reads left reads scope first whole now (λ location read. inr (inl read)))
      (part_reads left reads scope second whole now (λ location read. inr (inr read))))
  next_reads left reads scope (CaseOf place subject branches) made =
      let whole = CaseOf place subject branches in
      let now = (evaluate library scope left subject made).applications in
      outcome_after-gives (evaluate library scope left subject made) _ (AllComeFrom scope whole)
      (λ found gives. branches_outcome-gives library.names (λ values. evaluate library (with_bound scope values) left)
      branches found now (AllComeFrom scope whole)
      (λ values expr_tree read_there takes. bound_reads left reads scope values expr_tree whole now
      (λ location read. inr (read_there location read))
      (λ reference inside. value_reads left reads scope subject whole made found (λ location read. inl read) gives
      reference (takes reference inside))))
  next_reads left reads scope (OperatorsOf place first operands) made =
      let whole = OperatorsOf place first operands in
      operators_outcome-gives library.names (evaluate library scope left) (evaluate library scope left first made)
      operands (AllComeFrom scope whole) (λ value none reference inside. absurd (none reference inside))
      (part_reads left reads scope first whole made (λ location read. inl read))
  next_reads left reads scope (Prefixed place prefix operand) made =
      let whole = Prefixed place prefix operand in
      outcome_after-gives (evaluate library scope left operand made) _ (AllComeFrom scope whole)
      (λ found gives. IfGives-then _ HoldsNone (AllComeFrom scope whole)
      (λ value none reference inside. absurd (none reference inside)) (prefix_result-none library.names prefix found))
  next_reads left reads scope (BuildOf place constructor arguments) made =
      let whole = BuildOf place constructor arguments in
      outcome_after_all-gives (outcomes_of (evaluate library scope left) arguments made) _ (AllComeFrom scope whole)
      (λ values gives. built_result-gives (number_of_name library.names constructor) (parts_of_list values)
      (AllComeFrom scope whole)
      (values_read left reads scope arguments whole made values (λ location read. read) gives))
  next_reads left reads scope (ApplyOf place function arguments) made =
      let whole = ApplyOf place function arguments in
      let now = (outcomes_of (evaluate library scope left) arguments made).applications in
      outcome_after_all-gives (outcomes_of (evaluate library scope left) arguments made) _ (AllComeFrom scope whole)
      (λ values gives. application_outcome-gives library (λ inner. evaluate library (own_scope inner) left) function
      values now (AllComeFrom scope whole) (λ bytes reference inside. absurd inside)
      (λ expr_tree. IfGives-then (evaluate library (own_scope values) left expr_tree (now + 1)).result
      (AllComeFrom (own_scope values) expr_tree) (AllComeFrom scope whole)
      (λ value comes reference inside. values_read left reads scope arguments whole made values
      (λ location read. read) gives reference (comes_own values expr_tree reference (comes reference inside)))
      (reads (own_scope values) expr_tree (now + 1))))

  -- with any levels left
  pub evaluate-reads : (left : ℕ) → AllReads left
  unfolding evaluate
  evaluate-reads zero scope expr_tree made = tt
  evaluate-reads (suc left) scope expr_tree made = next_reads left (evaluate-reads left) scope expr_tree made
