-- Where patterns and expressions have no name offence, what they name is there once they are resolved.
use Rattle.std.proofs.Common.{◌≡◌, ℕ, ◌+◌, [], ◌++◌, refl, sym, ap, ◌∙◌, subst, arith}
use Rattle.std.specs.Prelude.{Option, Some, None, option_map}
use Rattle.std.proofs.lemmas.Bool.{true≢false}
use Rattle.abs_program.specs.NameSpaces.{NameSpaces, function_arity}
use Rattle.abs_tree.specs.Syntax.{Name, VariableTree, AtBound, PatternTree, AnyValue, Binds, SameNumber, SameString, Built, PatternTrees, NoPattern, NextPattern, ExprTree, LetIn, IfElse, OperatorsOf, Prefixed, NumberOf, StringOf, NullOf, DestinyOf, ThisOf, FieldOf, OwnCallOf, VariableOf, ApplyOf, BuildOf, CaseOf, ExprTrees, NoExpr, NextExpr, Operands, NoOperands, NextOperand, Branches, NoBranch, NextBranch}
use Rattle.abs_tree.specs.SyntaxCounts.{count_patterns, count_exprs}
use Rattle.abs_tree.specs.SyntaxSizes.{pattern_variables}
use Rattle.abs_program.specs.Tables.{meaning_of}
use Rattle.abs_program.specs.Whole.{Inside, PatternIsThere, PatternsAreThere, ExprIsThere, ExprsAreThere, OperandsAreThere, BranchesAreThere}
use Rattle.abs_program.specs.declared.name_spaces.ConstructorMeaning.{ConstructorMeaning}
use Rattle.abs_tree.specs.declared.place.Place.{Place}
use Rattle.abs_names.specs.NameOffences.{bind_offences, this_offences, pattern_offences, patterns_offences, expr_offences, exprs_offences, operands_offences, branches_offences}
use Rattle.abs_names.specs.Resolution.{field_expr, resolved_pattern, resolved_patterns, resolved_expr, resolved_exprs, resolved_operands, resolved_branches}
use Rattle.abs_names.specs.Scopes.{Scope, has_this, has_task, field_of, with_bound, pattern_scope}
use Rattle.abs_names.specs.TypeNames.{applied, function_taking, constructor_taking, type_offences}
use Rattle.abs_names.proofs.SizeLemmas.{pattern_vars}
use Rattle.abs_names.proofs.ThereScopeLemmas.{Agrees, still_there, bound_agrees, pattern_agrees, use_there, FieldKnown, field_known}
use Rattle.abs_names.proofs.ThereTypeLemmas.{is_known, takes_given, type_there}
use Rattle.list_facts.proofs.AppendLemmas.{both_empty}

-- resolving keeps how many patterns, and how many expressions there are
patterns_kept : (scope : Scope) (patterns : PatternTrees)
    → count_patterns (resolved_patterns scope patterns) ≡ count_patterns patterns
patterns_kept scope NoPattern = refl
patterns_kept scope (NextPattern first others) =
    ap (λ (n : ℕ). 1 + n) (patterns_kept (pattern_scope scope first) others)

pub exprs_kept : (scope : Scope) (expr_trees : ExprTrees)
    → count_exprs (resolved_exprs scope expr_trees) ≡ count_exprs expr_trees
exprs_kept scope NoExpr = refl
exprs_kept scope (NextExpr first others) = ap (λ (n : ℕ). 1 + n) (exprs_kept scope others)

-- a name that takes as many arguments as it is given takes as many once they are resolved, among equal name spaces
pub taking_kept : (taking : NameSpaces → Option ℕ) {spaces around : NameSpaces} {given now : ℕ} (place : Place)
    → around ≡ spaces → now ≡ given → applied (taking around) given place ≡ [] → taking spaces ≡ Some now
taking_kept taking {around = around} {given} place same counted none =
    ap taking (sym same) ∙ (takes_given (taking around) given place none ∙ ap Some (sym counted))

-- how many arguments a name takes as a constructor
abbrev constructor_arity : Name → NameSpaces → Option ℕ
constructor_arity name spaces =
    option_map (λ (c : ConstructorMeaning). c.taking.arity) (meaning_of spaces.constructors name)

mutual
  -- a pattern without a name offence
  pub pattern_there : (inside : Inside) (bound : ℕ) (scope : Scope) (pattern : PatternTree)
      → Agrees inside bound scope → pattern_offences scope pattern ≡ []
      → PatternIsThere inside bound (resolved_pattern scope pattern)
  pattern_there inside bound scope (AnyValue place) agrees none = tt
  pattern_there inside bound scope (Binds place variable) agrees none = ap AtBound agrees.count
  pattern_there inside bound scope (SameNumber place number) agrees none = tt
  pattern_there inside bound scope (SameString place string) agrees none = tt
  pattern_there inside bound scope (Built place constructor arguments) agrees none =
      let parts = both_empty
      (applied (constructor_taking scope.around constructor) (count_patterns arguments) place)
      (patterns_offences scope arguments) none in (
        taking_kept (constructor_arity constructor) place agrees.around.spaces (patterns_kept scope arguments) parts.0,
        patterns_there inside bound scope arguments agrees parts.1,
      )

  -- patterns without one
  pub patterns_there : (inside : Inside) (bound : ℕ) (scope : Scope) (patterns : PatternTrees)
      → Agrees inside bound scope → patterns_offences scope patterns ≡ []
      → PatternsAreThere inside bound (resolved_patterns scope patterns)
  patterns_there inside bound scope NoPattern agrees none = tt
  patterns_there inside bound scope (NextPattern first others) agrees none =
      let later = pattern_scope scope first in
      let parts = both_empty (pattern_offences scope first) (patterns_offences later others) none in (
        pattern_there inside bound scope first agrees parts.0,
        subst (λ (n : ℕ). PatternsAreThere inside (bound + n) (resolved_patterns later others))
            (sym (pattern_vars scope first))
            (patterns_there inside (bound + pattern_variables first) later others
            (pattern_agrees inside bound scope first agrees parts.0) parts.1),
      )

-- a field of `this` that is known
field_there : (inside : Inside) (bound : ℕ) (place name_place : Place) (name : Name) (found : Option VariableTree)
    → FieldKnown inside found → ExprIsThere inside bound (field_expr place name_place name found)
field_there inside bound place name_place name (Some field) known =
    still_there inside 0 bound field (omega arith) (known.there field refl)
field_there inside bound place name_place name None known = absurd (true≢false (sym known.known))

mutual
  -- an expression without a name offence
  pub expr_there : (inside : Inside) (bound : ℕ) (scope : Scope) (expr_tree : ExprTree) → Agrees inside bound scope
      → expr_offences scope expr_tree ≡ [] → ExprIsThere inside bound (resolved_expr scope expr_tree)
  expr_there inside bound scope (LetIn place type variable_place variable value body) agrees none =
      let under = with_bound scope variable in
      let parts = both_empty (type_offences scope.around type) (expr_offences scope value
      ++ (bind_offences scope variable_place variable ++ expr_offences under body)) none in
      let later = both_empty (expr_offences scope value)
      (bind_offences scope variable_place variable ++ expr_offences under body) parts.1 in
      let last = both_empty (bind_offences scope variable_place variable) (expr_offences under body) later.1 in (
        type_there inside scope.around type agrees.around parts.0,
        expr_there inside bound scope value agrees later.0,
        ap AtBound agrees.count,
        expr_there inside (bound + 1) under body
            (bound_agrees inside bound scope variable_place variable agrees last.0) last.1,
      )
  expr_there inside bound scope (IfElse place condition first second) agrees none =
      let parts = both_empty (expr_offences scope condition)
      (expr_offences scope first ++ expr_offences scope second) none in
      let later = both_empty (expr_offences scope first) (expr_offences scope second) parts.1 in (
        expr_there inside bound scope condition agrees parts.0,
        expr_there inside bound scope first agrees later.0,
        expr_there inside bound scope second agrees later.1,
      )
  expr_there inside bound scope (OperatorsOf place first operands) agrees none =
      let parts = both_empty (expr_offences scope first) (operands_offences scope operands) none in (
        expr_there inside bound scope first agrees parts.0,
        operands_there inside bound scope operands agrees parts.1,
      )
  expr_there inside bound scope (Prefixed place prefix operand) agrees none =
      expr_there inside bound scope operand agrees none
  expr_there inside bound scope (NumberOf place number) agrees none = tt
  expr_there inside bound scope (StringOf place string) agrees none = tt
  expr_there inside bound scope (NullOf place) agrees none = tt
  expr_there inside bound scope (DestinyOf place) agrees none =
      sym agrees.task ∙ is_known (has_task scope.routine) place none
  expr_there inside bound scope (ThisOf place) agrees none =
      sym agrees.this ∙ is_known (has_this scope.routine) place none
  expr_there inside bound scope (FieldOf place name_place name) agrees none =
      field_there inside bound place name_place name (field_of scope name)
      (field_known inside bound scope place name_place name agrees none)
  expr_there inside bound scope (OwnCallOf place method arguments) agrees none =
      let parts = both_empty (this_offences scope place) (exprs_offences scope arguments) none in (
        sym agrees.this ∙ is_known (has_this scope.routine) place parts.0,
        exprs_there inside bound scope arguments agrees parts.1,
      )
  expr_there inside bound scope (VariableOf place variable) agrees none =
      use_there inside bound scope place variable agrees none
  expr_there inside bound scope (ApplyOf place function arguments) agrees none =
      let parts = both_empty (applied (function_taking scope.around function) (count_exprs arguments) place)
      (exprs_offences scope arguments) none in (
        taking_kept (λ (spaces : NameSpaces). option_map function_arity (meaning_of spaces.functions function)) place
            agrees.around.spaces (exprs_kept scope arguments) parts.0,
        exprs_there inside bound scope arguments agrees parts.1,
      )
  expr_there inside bound scope (BuildOf place constructor arguments) agrees none =
      let parts = both_empty (applied (constructor_taking scope.around constructor) (count_exprs arguments) place)
      (exprs_offences scope arguments) none in (
        taking_kept (constructor_arity constructor) place agrees.around.spaces (exprs_kept scope arguments) parts.0,
        exprs_there inside bound scope arguments agrees parts.1,
      )
  expr_there inside bound scope (CaseOf place subject branches) agrees none =
      let parts = both_empty (expr_offences scope subject) (branches_offences scope branches) none in (
        expr_there inside bound scope subject agrees parts.0,
        branches_there inside bound scope branches agrees parts.1,
      )

  -- expressions without one
  pub exprs_there : (inside : Inside) (bound : ℕ) (scope : Scope) (expr_trees : ExprTrees) → Agrees inside bound scope
      → exprs_offences scope expr_trees ≡ [] → ExprsAreThere inside bound (resolved_exprs scope expr_trees)
  exprs_there inside bound scope NoExpr agrees none = tt
  exprs_there inside bound scope (NextExpr first others) agrees none =
      let parts = both_empty (expr_offences scope first) (exprs_offences scope others) none in
      (expr_there inside bound scope first agrees parts.0, exprs_there inside bound scope others agrees parts.1)

  operands_there : (inside : Inside) (bound : ℕ) (scope : Scope) (operands : Operands) → Agrees inside bound scope
      → operands_offences scope operands ≡ [] → OperandsAreThere inside bound (resolved_operands scope operands)
  operands_there inside bound scope NoOperands agrees none = tt
  operands_there inside bound scope (NextOperand operator right others) agrees none =
      let parts = both_empty (expr_offences scope right) (operands_offences scope others) none in
      (expr_there inside bound scope right agrees parts.0, operands_there inside bound scope others agrees parts.1)

  branches_there : (inside : Inside) (bound : ℕ) (scope : Scope) (branches : Branches) → Agrees inside bound scope
      → branches_offences scope branches ≡ [] → BranchesAreThere inside bound (resolved_branches scope branches)
  branches_there inside bound scope NoBranch agrees none = tt
  branches_there inside bound scope (NextBranch pattern value others) agrees none =
      let under = pattern_scope scope pattern in
      let parts = both_empty (pattern_offences scope pattern)
      (expr_offences under value ++ branches_offences scope others) none in
      let later = both_empty (expr_offences under value) (branches_offences scope others) parts.1 in (
        pattern_there inside bound scope pattern agrees parts.0,
        subst (λ (n : ℕ). ExprIsThere inside (bound + n) (resolved_expr under value))
            (sym (pattern_vars scope pattern))
            (expr_there inside (bound + pattern_variables pattern) under value
            (pattern_agrees inside bound scope pattern agrees parts.0) later.0),
        branches_there inside bound scope others agrees later.1,
      )
