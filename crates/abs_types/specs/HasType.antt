-- The types of expressions as a relation: a constructor for each typing rule. The types of bound
-- variables are those of the variables of patterns and of `let` that are visible.
--
--   `HasType`                  an expression has a type
--   `HaveTypes`                expressions have types, in their order
--   `HaveOperands`             operators of one precedence, from the left
--   `HaveBranches`             branches, whose patterns match a subject of a type
use Rattle.std.specs.Prelude.{◌≡◌, ℕ, ℤ, List, [], ◌∷◌, ◌++◌, slice_get, Some}
use Rattle.abs_tree.specs.Syntax.{Name, TypeTree, VariableTree, AtSlot, AtBound, AtField, DeclTree, PatternTree, ExprTree, LetIn, IfElse, OperatorsOf, Prefixed, NumberOf, StringOf, NullOf, DestinyOf, ThisOf, VariableOf, ApplyOf, BuildOf, CaseOf, ExprTrees, NoExpr, NextExpr, Operands, NoOperands, NextOperand, Branches, NoBranch, NextBranch}
use Rattle.abs_tree.specs.declared.place.Place.{Place}
use Rattle.abs_tree.specs.declared.syntax.expression.Operator.{Operator}
use Rattle.abs_tree.specs.declared.syntax.expression.Prefix.{Prefix}
use Rattle.abs_types.specs.Applications.{applied_type}
use Rattle.abs_types.specs.Joins.{join_of}
use Rattle.abs_types.specs.Matching.{Matches}
use Rattle.abs_types.specs.OperatorRules.{OperatorGives, PrefixGives}
use Rattle.abs_types.specs.OperatorTypes.{bool_type}
use Rattle.abs_types.specs.PlainTypes.{PlainType, PlainInt, PlainString, PlainNull, PlainFut, PlainClass, plain}
use Rattle.abs_types.specs.Schemes.{Scheme, scheme_of_function, scheme_of_constructor}
use Rattle.abs_types.specs.Subtyping.{Fits}
use Rattle.abs_types.specs.Typing.{Frame, join_branches}

mutual
  pub data HasType (declarations : List DeclTree) (frame : Frame) : List PlainType → ExprTree → PlainType → Type 0 where
    number : (bound : List PlainType) (place : Place) (value : ℤ)
        → HasType declarations frame bound (NumberOf place value) PlainInt
    string : (bound : List PlainType) (place : Place) (value : List ℕ)
        → HasType declarations frame bound (StringOf place value) PlainString
    null : (bound : List PlainType) (place : Place) → HasType declarations frame bound (NullOf place) PlainNull
    destiny : (bound : List PlainType) (place : Place) (result : PlainType) → frame.task ≡ Some result
        → HasType declarations frame bound (DestinyOf place) (PlainFut result)
    this : (bound : List PlainType) (place : Place) (class : Name) → frame.this ≡ Some class
        → HasType declarations frame bound (ThisOf place) (PlainClass class)
    slot : (bound : List PlainType) (place : Place) (index : ℕ) (type : PlainType)
        → slice_get frame.slots index ≡ Some (Some type)
        → HasType declarations frame bound (VariableOf place (AtSlot index)) type
    bound_variable : (bound : List PlainType) (place : Place) (depth : ℕ) (type : PlainType)
        → slice_get bound depth ≡ Some type
        → HasType declarations frame bound (VariableOf place (AtBound depth)) type
    field : (bound : List PlainType) (place : Place) (index : ℕ) (type : PlainType)
        → slice_get frame.fields index ≡ Some type
        → HasType declarations frame bound (VariableOf place (AtField index)) type
    let_in : (bound : List PlainType) (place variable_place : Place) (declared : TypeTree) (variable : VariableTree)
        (value body : ExprTree) (given type : PlainType) → HasType declarations frame bound value given
        → Fits declarations given (plain declared)
        → HasType declarations frame (bound ++ plain declared ∷ []) body type
        → HasType declarations frame bound (LetIn place declared variable_place variable value body) type
    if_else : (bound : List PlainType) (place : Place) (condition first second : ExprTree)
        (given one other type : PlainType) → HasType declarations frame bound condition given
        → Fits declarations given bool_type → HasType declarations frame bound first one
        → HasType declarations frame bound second other → join_of declarations one other ≡ Some type
        → HasType declarations frame bound (IfElse place condition first second) type
    operators : (bound : List PlainType) (place : Place) (first : ExprTree) (operands : Operands)
        (left type : PlainType) → HasType declarations frame bound first left
        → HaveOperands declarations frame bound left operands type
        → HasType declarations frame bound (OperatorsOf place first operands) type
    prefixed : (bound : List PlainType) (place : Place) (prefix : Prefix) (operand : ExprTree)
        (given type : PlainType) → HasType declarations frame bound operand given
        → PrefixGives declarations prefix given type
        → HasType declarations frame bound (Prefixed place prefix operand) type
    apply : (bound : List PlainType) (place : Place) (function : Name) (arguments : ExprTrees) (scheme : Scheme)
        (given : List PlainType) (type : PlainType) → scheme_of_function declarations function ≡ Some scheme
        → HaveTypes declarations frame bound arguments given → applied_type declarations scheme given ≡ Some type
        → HasType declarations frame bound (ApplyOf place function arguments) type
    build : (bound : List PlainType) (place : Place) (constructor : Name) (arguments : ExprTrees) (scheme : Scheme)
        (given : List PlainType) (type : PlainType) → scheme_of_constructor declarations constructor ≡ Some scheme
        → HaveTypes declarations frame bound arguments given → applied_type declarations scheme given ≡ Some type
        → HasType declarations frame bound (BuildOf place constructor arguments) type
    case_of : (bound : List PlainType) (place : Place) (subject : ExprTree) (branches : Branches) (given : PlainType)
        (types : List PlainType) (type : PlainType) → HasType declarations frame bound subject given
        → HaveBranches declarations frame bound given branches types → join_branches declarations types ≡ Some type
        → HasType declarations frame bound (CaseOf place subject branches) type

  pub data HaveTypes (declarations : List DeclTree) (frame : Frame)
      : List PlainType → ExprTrees → List PlainType → Type 0 where
    no_expr : (bound : List PlainType) → HaveTypes declarations frame bound NoExpr []
    next_expr : (bound : List PlainType) (first : ExprTree) (others : ExprTrees) (type : PlainType)
        (types : List PlainType) → HasType declarations frame bound first type
        → HaveTypes declarations frame bound others types
        → HaveTypes declarations frame bound (NextExpr first others) (type ∷ types)

  -- operators after an operand of a type: each takes what those before it give
  pub data HaveOperands (declarations : List DeclTree) (frame : Frame)
      : List PlainType → PlainType → Operands → PlainType → Type 0 where
    no_operand : (bound : List PlainType) (left : PlainType)
        → HaveOperands declarations frame bound left NoOperands left
    next_operand : (bound : List PlainType) (left : PlainType) (operator : Operator) (right : ExprTree)
        (others : Operands) (given between type : PlainType) → HasType declarations frame bound right given
        → OperatorGives declarations operator left given between
        → HaveOperands declarations frame bound between others type
        → HaveOperands declarations frame bound left (NextOperand operator right others) type

  pub data HaveBranches (declarations : List DeclTree) (frame : Frame)
      : List PlainType → PlainType → Branches → List PlainType → Type 0 where
    no_branch : (bound : List PlainType) (subject : PlainType)
        → HaveBranches declarations frame bound subject NoBranch []
    next_branch : (bound : List PlainType) (subject : PlainType) (pattern : PatternTree) (value : ExprTree)
        (others : Branches) (variables : List PlainType) (type : PlainType) (types : List PlainType)
        → Matches declarations subject pattern variables
        → HasType declarations frame (bound ++ variables) value type
        → HaveBranches declarations frame bound subject others types
        → HaveBranches declarations frame bound subject (NextBranch pattern value others) (type ∷ types)
