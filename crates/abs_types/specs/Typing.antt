-- The type of an expression, from the types of its parts: a typing rule for each form. An expression
-- has no type where a part of it has none, or where its rule gives none.
--
--   `Frame`                            what is around an expression
--   `variable_type`                    the type of a variable
--   `let_type`, `if_type`, ..          the rules, by the types of the parts
--   `type_in`, `types_in`              the type of an expression, and those of several
use Rattle.std.specs.Prelude.{ℕ, List, [], ◌∷◌, ◌++◌, slice_get, Option, Some, None, option_map, option_and_then, if◌then◌else◌}
use Rattle.abs_tree.specs.Syntax.{Name, VariableTree, Unresolved, AtSlot, AtBound, AtField, DeclTree, ExprTree, LetIn, IfElse, OperatorsOf, Prefixed, NumberOf, StringOf, NullOf, DestinyOf, ThisOf, FieldOf, OwnCallOf, VariableOf, ApplyOf, BuildOf, CaseOf, ExprTrees, NoExpr, NextExpr, Operands, NoOperands, NextOperand, Branches, NoBranch, NextBranch}
use Rattle.abs_tree.specs.declared.syntax.expression.Operator.{Operator}
use Rattle.abs_types.specs.Applications.{applied_type}
use Rattle.abs_types.specs.Joins.{join_of, join_all}
use Rattle.abs_types.specs.OperatorTypes.{bool_type, operand_types, prefix_type}
use Rattle.abs_types.specs.PatternTypes.{pattern_fits, pattern_types}
use Rattle.abs_types.specs.PlainTypes.{PlainType, PlainInt, PlainString, PlainNull, PlainFut, PlainClass, plain}
use Rattle.abs_types.specs.Schemes.{Scheme, scheme_of_function, scheme_of_constructor}
use Rattle.abs_types.specs.Subtyping.{fits}

-- What is around an expression: the types of slots, of those that are visible; those of the fields that it can use; the
-- class of `this`; and the result type of the task, if there is one.
pub record Frame : Type 0 where
  pub slots : List (Option PlainType)
  pub fields : List PlainType
  pub this : Option Name
  pub task : Option PlainType

-- the type of a variable, where these types of bound variables are visible
abbrev pub known_at : List (Option PlainType) → ℕ → Option PlainType
known_at types index = option_and_then (λ found. found) (slice_get types index)

abbrev pub variable_type : Frame → List (Option PlainType) → VariableTree → Option PlainType
variable_type frame bound (AtSlot slot) = known_at frame.slots slot
variable_type frame bound (AtBound depth) = known_at bound depth
variable_type frame bound (AtField field) = slice_get frame.fields field
variable_type frame bound (Unresolved name) = None

-- `let`: the value fits the declared type, and the type is that of the body
abbrev pub let_type : List DeclTree → PlainType → Option PlainType → Option PlainType → Option PlainType
let_type declarations declared (Some value) (Some body) = if fits declarations value declared then Some body else None
let_type declarations declared _ _ = None

-- `if`: the condition is a Bool, and the type is the join of both branches
abbrev pub if_type : List DeclTree → Option PlainType → Option PlainType → Option PlainType → Option PlainType
if_type declarations (Some condition) (Some first) (Some second) =
    if fits declarations condition bool_type then join_of declarations first second else None
if_type declarations _ _ _ = None

-- an application of a function or a constructor with a scheme
abbrev pub application_type : List DeclTree → Option Scheme → Option (List PlainType) → Option PlainType
application_type declarations (Some scheme) (Some arguments) = applied_type declarations scheme arguments
application_type declarations _ _ = None

-- `case`: the join of the branches
abbrev pub join_branches : List DeclTree → List PlainType → Option PlainType
join_branches declarations [] = None
join_branches declarations (first ∷ others) = join_all declarations first others

abbrev pub case_type : List DeclTree → Option PlainType → Option (List PlainType) → Option PlainType
case_type declarations (Some subject) (Some branches) = join_branches declarations branches
case_type declarations _ _ = None

-- one more type in front of several
abbrev pub both_types : Option PlainType → Option (List PlainType) → Option (List PlainType)
both_types (Some first) (Some others) = Some (first ∷ others)
both_types _ _ = None

abbrev pub both_operands : Operator → Option PlainType → Option (List (Operator × PlainType))
    → Option (List (Operator × PlainType))
both_operands operator (Some right) (Some others) = Some ((operator, right) ∷ others)
both_operands operator _ _ = None

abbrev pub operators_type : List DeclTree → Option PlainType → Option (List (Operator × PlainType)) → Option PlainType
operators_type declarations (Some first) (Some operands) = operand_types declarations first operands
operators_type declarations _ _ = None

abbrev mutual
  -- the type of an expression, where variables with these types are bound
  pub type_in : List DeclTree → Frame → List (Option PlainType) → ExprTree → Option PlainType
  type_in declarations frame bound (LetIn place type variable_place variable value body) =
      let_type declarations (plain type) (type_in declarations frame bound value)
      (type_in declarations frame (bound ++ Some (plain type) ∷ []) body)
  type_in declarations frame bound (IfElse place condition first second) =
      if_type declarations (type_in declarations frame bound condition) (type_in declarations frame bound first)
      (type_in declarations frame bound second)
  type_in declarations frame bound (OperatorsOf place first operands) =
      operators_type declarations (type_in declarations frame bound first)
      (operands_in declarations frame bound operands)
  type_in declarations frame bound (Prefixed place prefix operand) =
      option_and_then (prefix_type declarations prefix) (type_in declarations frame bound operand)
  type_in declarations frame bound (NumberOf place number) = Some PlainInt
  type_in declarations frame bound (StringOf place string) = Some PlainString
  type_in declarations frame bound (NullOf place) = Some PlainNull
  type_in declarations frame bound (DestinyOf place) = option_map PlainFut frame.task
  type_in declarations frame bound (ThisOf place) = option_map PlainClass frame.this
  type_in declarations frame bound (VariableOf place variable) = variable_type frame bound variable
  type_in declarations frame bound (ApplyOf place function arguments) =
      application_type declarations (scheme_of_function declarations function)
      (types_in declarations frame bound arguments)
  type_in declarations frame bound (BuildOf place constructor arguments) =
      application_type declarations (scheme_of_constructor declarations constructor)
      (types_in declarations frame bound arguments)
  type_in declarations frame bound (CaseOf place subject branches) =
      case_type declarations (type_in declarations frame bound subject)
      (branches_in declarations frame bound (type_in declarations frame bound subject) branches)
  -- a call on `this` has a type as a whole right side alone, and a field of `this` is a variable once it is resolved
  type_in declarations frame bound (OwnCallOf place method arguments) = None
  type_in declarations frame bound (FieldOf place name_place name) = None

  pub types_in : List DeclTree → Frame → List (Option PlainType) → ExprTrees → Option (List PlainType)
  types_in declarations frame bound NoExpr = Some []
  types_in declarations frame bound (NextExpr first others) =
      both_types (type_in declarations frame bound first) (types_in declarations frame bound others)

  pub operands_in : List DeclTree → Frame → List (Option PlainType) → Operands
      → Option (List (Operator × PlainType))
  operands_in declarations frame bound NoOperands = Some []
  operands_in declarations frame bound (NextOperand operator right others) =
      both_operands operator (type_in declarations frame bound right) (operands_in declarations frame bound others)

  -- the types of the branches, if all patterns fit the subject
  pub branches_in : List DeclTree → Frame → List (Option PlainType) → Option PlainType → Branches
      → Option (List PlainType)
  branches_in declarations frame bound subject NoBranch = Some []
  branches_in declarations frame bound subject (NextBranch pattern value others) =
      both_types (if pattern_fits declarations subject pattern then
      type_in declarations frame (bound ++ pattern_types declarations subject pattern) value else None)
      (branches_in declarations frame bound subject others)
