-- The offences of expressions by their types. An expression offends where all its parts have types and its rule gives
-- none (T1), at its first token. A part without a type silences the expressions around it. A pattern that does not fit
-- offends by itself, and so does a call on `this` inside an expression, which has no rule.
--
--   `is_visible`                   whether a variable is there
--   `own_call_offences`            the offences of a call on `this` inside an expression
--   `expr_offences`, ..            those of an expression, and of several
use Rattle.std.specs.Prelude.{ℕ, Bool, true, false, not, ◌&&◌, ◌||◌, List, [], ◌∷◌, ◌++◌, slice_get, Option, Some, None, is_some, option_map}
use Rattle.abs_tree.specs.Syntax.{Name, VariableTree, Unresolved, AtSlot, AtBound, AtField, DeclTree, ExprTree, LetIn, IfElse, OperatorsOf, Prefixed, NumberOf, StringOf, NullOf, DestinyOf, ThisOf, FieldOf, OwnCallOf, VariableOf, ApplyOf, BuildOf, CaseOf, ExprTrees, NoExpr, NextExpr, Operands, NoOperands, NextOperand, Branches, NoBranch, NextBranch}
use Rattle.abs_tree.specs.SyntaxCounts.{count_exprs}
use Rattle.abs_tree.specs.declared.place.Place.{Place}
use Rattle.abs_tree.specs.declared.refusal.Code.TheVariants.{T2}
use Rattle.abs_tree.specs.declared.refusal.Offence.{Offence}
use Rattle.abs_types.specs.Methods.{has_method}
use Rattle.abs_tree.specs.Offences.{offence_if}
use Rattle.abs_types.specs.Mistyped.{mistyped_if, untyped}
use Rattle.abs_types.specs.PatternTypes.{pattern_offences, pattern_types}
use Rattle.abs_types.specs.PlainTypes.{PlainType, PlainClass, plain}
use Rattle.abs_types.specs.Typing.{Frame, branches_in, operands_in, type_in, types_in, variable_type}

-- whether a variable is there; one of a pattern whose subject has no type is there, and has no type either
abbrev pub is_visible : Frame → List (Option PlainType) → VariableTree → Bool
is_visible frame bound (AtBound depth) = is_some (slice_get bound depth)
is_visible frame bound (AtSlot slot) = is_some (variable_type frame bound (AtSlot slot))
is_visible frame bound (AtField field) = is_some (variable_type frame bound (AtField field))
is_visible frame bound (Unresolved name) = false

-- whether an object has no method with a name and this many parameters; one without a type asks for none
abbrev pub lacks_method : List DeclTree → Option PlainType → Name → ℕ → Bool
lacks_method declarations (Some receiver) method count = not (has_method declarations receiver method count)
lacks_method declarations None method count = false

-- whether the class of `this` lacks it; where there is no class, so it is
abbrev pub this_lacks_method : List DeclTree → Frame → Name → ℕ → Bool
this_lacks_method declarations frame method count =
    not (is_some frame.this) || lacks_method declarations (option_map PlainClass frame.this) method count

-- a call on `this` inside an expression has no type; where its arguments have types, it offends
abbrev pub own_call_offences : List DeclTree → Frame → Option (List PlainType) → Place → Name → ℕ → List Offence
own_call_offences declarations frame given place method count =
    offence_if (this_lacks_method declarations frame method count) T2 place ++ mistyped_if (is_some given) place

abbrev mutual
  -- the offences of an expression, where variables with these types are bound
  pub expr_offences : List DeclTree → Frame → List (Option PlainType) → ExprTree → List Offence
  expr_offences declarations frame bound (LetIn place type variable_place variable value body) =
      expr_offences declarations frame bound value
      ++ expr_offences declarations frame (bound ++ Some (plain type) ∷ []) body
      ++ untyped (is_some (type_in declarations frame bound value)
      && is_some (type_in declarations frame (bound ++ Some (plain type) ∷ []) body))
      (type_in declarations frame bound (LetIn place type variable_place variable value body)) place
  expr_offences declarations frame bound (IfElse place condition first second) =
      expr_offences declarations frame bound condition ++ expr_offences declarations frame bound first
      ++ expr_offences declarations frame bound second
      ++ untyped (is_some (type_in declarations frame bound condition)
      && is_some (type_in declarations frame bound first) && is_some (type_in declarations frame bound second))
      (type_in declarations frame bound (IfElse place condition first second)) place
  expr_offences declarations frame bound (OperatorsOf place first operands) =
      expr_offences declarations frame bound first ++ operands_offences declarations frame bound operands
      ++ untyped (is_some (type_in declarations frame bound first)
      && is_some (operands_in declarations frame bound operands))
      (type_in declarations frame bound (OperatorsOf place first operands)) place
  expr_offences declarations frame bound (Prefixed place prefix operand) =
      expr_offences declarations frame bound operand
      ++ untyped (is_some (type_in declarations frame bound operand))
      (type_in declarations frame bound (Prefixed place prefix operand)) place
  expr_offences declarations frame bound (NumberOf place number) = []
  expr_offences declarations frame bound (StringOf place string) = []
  expr_offences declarations frame bound (NullOf place) = []
  expr_offences declarations frame bound (DestinyOf place) =
      untyped true (type_in declarations frame bound (DestinyOf place)) place
  expr_offences declarations frame bound (ThisOf place) =
      untyped true (type_in declarations frame bound (ThisOf place)) place
  expr_offences declarations frame bound (VariableOf place variable) =
      mistyped_if (not (is_visible frame bound variable)) place
  expr_offences declarations frame bound (ApplyOf place function arguments) =
      exprs_offences declarations frame bound arguments
      ++ untyped (is_some (types_in declarations frame bound arguments))
      (type_in declarations frame bound (ApplyOf place function arguments)) place
  expr_offences declarations frame bound (BuildOf place constructor arguments) =
      exprs_offences declarations frame bound arguments
      ++ untyped (is_some (types_in declarations frame bound arguments))
      (type_in declarations frame bound (BuildOf place constructor arguments)) place
  expr_offences declarations frame bound (CaseOf place subject branches) =
      expr_offences declarations frame bound subject
      ++ branches_offences declarations frame bound (type_in declarations frame bound subject) branches
      ++ untyped (is_some (type_in declarations frame bound subject) && is_some (branches_in declarations frame bound
      (type_in declarations frame bound subject) branches))
      (type_in declarations frame bound (CaseOf place subject branches)) place
  expr_offences declarations frame bound (OwnCallOf place method arguments) =
      exprs_offences declarations frame bound arguments
      ++ own_call_offences declarations frame (types_in declarations frame bound arguments) place method
      (count_exprs arguments)
  -- once names are resolved, a field of `this` is a variable
  expr_offences declarations frame bound (FieldOf place name_place name) = mistyped_if true place

  pub exprs_offences : List DeclTree → Frame → List (Option PlainType) → ExprTrees → List Offence
  exprs_offences declarations frame bound NoExpr = []
  exprs_offences declarations frame bound (NextExpr first others) =
      expr_offences declarations frame bound first ++ exprs_offences declarations frame bound others

  pub operands_offences : List DeclTree → Frame → List (Option PlainType) → Operands → List Offence
  operands_offences declarations frame bound NoOperands = []
  operands_offences declarations frame bound (NextOperand operator right others) =
      expr_offences declarations frame bound right ++ operands_offences declarations frame bound others

  -- the offences of branches and of their patterns; a pattern whose subject has no type does not offend
  pub branches_offences : List DeclTree → Frame → List (Option PlainType) → Option PlainType → Branches
      → List Offence
  branches_offences declarations frame bound subject NoBranch = []
  branches_offences declarations frame bound subject (NextBranch pattern value others) =
      pattern_offences declarations subject pattern
      ++ expr_offences declarations frame (bound ++ pattern_types declarations subject pattern) value
      ++ branches_offences declarations frame bound subject others
