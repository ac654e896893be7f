-- The objects and futures inside values, and where those come from that an expression gives.
--
--   `Reference`, `IsIn`, `IsInAny`     an object or a future, and that one is inside a value or inside parts
--   `Reads`                            an expression reads a location, by its letters
--   `ReadsInAny`, `ReadsInOperand`, `ReadsInBranch`    one of several expressions, operands or branches does
--   `ComesFrom`                        a reference is inside a value that an expression reads
--   `ComesFromEarlier`                 it is inside a value of a list that comes before some index
--   `IsGiven`                          a value of a list is what the expression at its index gives
--   `StatementGives`                   the values of a statement: of its own expressions, and then the initial ones
--   `expr_tree_at`                     the expression at an index
use Rattle.std.specs.Prelude.{◌≡◌, ◌⊎◌, ◌<◌, ℕ, zero, suc, List, slice_get, Option, Some, None}
use Rattle.abs_values.specs.Evaluation.{Outcome, all_end_with, evaluate, initial_outcomes, outcomes_of}
use Rattle.abs_tree.specs.Limits.{level_limit}
use Rattle.abs_values.specs.Results.{Gives, AllGive}
use Rattle.abs_values.specs.Scopes.{Library, Scope, Location, InSlot, InThis, location_of, value_at}
use Rattle.abs_tree.specs.Syntax.{ExprTree, LetIn, IfElse, OperatorsOf, Prefixed, NumberOf, StringOf, NullOf, DestinyOf, ThisOf, FieldOf, OwnCallOf, VariableOf, ApplyOf, BuildOf, CaseOf, ExprTrees, NoExpr, NextExpr, Operands, NoOperands, NextOperand, Branches, NoBranch, NextBranch}
use Rattle.abs_values.specs.ValueTrees.{ValueTree, IntValue, StringValue, BuiltValue, ObjectValue, FutureValue, NullValue, ValueTrees, NoPart, NextPart}

-- an object, or a future by the number of its task
pub data Reference : Type 0 where
  ToObject : (object : ℕ) → Reference
  ToFuture : (task : ℕ) → Reference

unfoldable mutual
  -- the reference is somewhere inside the value
  pub IsIn : Reference → ValueTree → Type 0
  IsIn reference (IntValue number) = ⊥
  IsIn reference (StringValue string) = ⊥
  IsIn reference (BuiltValue constructor parts) = IsInAny reference parts
  IsIn reference (ObjectValue object) = reference ≡ ToObject object
  IsIn reference (FutureValue task) = reference ≡ ToFuture task
  IsIn reference NullValue = ⊥

  pub IsInAny : Reference → ValueTrees → Type 0
  IsInAny reference NoPart = ⊥
  IsInAny reference (NextPart first others) = IsIn reference first ⊎ IsInAny reference others

-- The expression reads the location somewhere in it, in a branch that is not taken too. The receiver of a call on
-- `this` is not read, but its arguments are.
unfoldable mutual
  pub Reads : Location → ExprTree → Type 0
  Reads location (LetIn place type variable_place variable value body) = Reads location value ⊎ Reads location body
  Reads location (IfElse place condition first second) =
      Reads location condition ⊎ Reads location first ⊎ Reads location second
  Reads location (OperatorsOf place first operands) = Reads location first ⊎ ReadsInOperand location operands
  Reads location (Prefixed place prefix operand) = Reads location operand
  Reads location (NumberOf place number) = ⊥
  Reads location (StringOf place string) = ⊥
  Reads location (NullOf place) = ⊥
  Reads location (DestinyOf place) = ⊥
  Reads location (ThisOf place) = location ≡ InThis
  Reads location (FieldOf place name_place name) = ⊥
  Reads location (OwnCallOf place method arguments) = ReadsInAny location arguments
  Reads location (VariableOf place variable) = location_of variable ≡ Some location
  Reads location (ApplyOf place function arguments) = ReadsInAny location arguments
  Reads location (BuildOf place constructor arguments) = ReadsInAny location arguments
  Reads location (CaseOf place subject branches) = Reads location subject ⊎ ReadsInBranch location branches

  pub ReadsInAny : Location → ExprTrees → Type 0
  ReadsInAny location NoExpr = ⊥
  ReadsInAny location (NextExpr first others) = Reads location first ⊎ ReadsInAny location others

  pub ReadsInOperand : Location → Operands → Type 0
  ReadsInOperand location NoOperands = ⊥
  ReadsInOperand location (NextOperand operator right others) = Reads location right ⊎ ReadsInOperand location others

  pub ReadsInBranch : Location → Branches → Type 0
  ReadsInBranch location NoBranch = ⊥
  ReadsInBranch location (NextBranch pattern value others) = Reads location value ⊎ ReadsInBranch location others

-- The reference is inside the value at a location that the expression reads.
pub record ComesFrom (scope : Scope) (expr_tree : ExprTree) (reference : Reference) : Type 0 where
  pub location : Location
  pub is_read : Reads location expr_tree
  pub value : ValueTree
  pub there : value_at scope location ≡ Some value
  pub inside : IsIn reference value

-- The reference is inside a value of a list that comes before this index, at a slot that the expression reads.
pub record ComesFromEarlier (values : List ValueTree) (index : ℕ) (expr_tree : ExprTree) (reference : Reference) : Type 0
  where
    pub slot : ℕ
    pub earlier : slot < index
    pub is_read : Reads (InSlot slot) expr_tree
    pub value : ValueTree
    pub there : slice_get values slot ≡ Some value
    pub inside : IsIn reference value

-- the expression at an index
abbrev pub expr_tree_at : ExprTrees → ℕ → Option ExprTree
expr_tree_at NoExpr index = None
expr_tree_at (NextExpr first others) zero = Some first
expr_tree_at (NextExpr first others) (suc index) = expr_tree_at others index

-- The expression at this index gives the value, after some applications.
pub record IsGiven (give : ExprTree → ℕ → Outcome) (expr_trees : ExprTrees) (index : ℕ) (value : ValueTree) : Type 0 where
  pub expr_tree : ExprTree
  pub there : expr_tree_at expr_trees index ≡ Some expr_tree
  pub applications : ℕ
  pub gives : (give expr_tree applications).result ≡ Gives value

-- The own expressions of a statement give the values `own` after `made` applications. The list `values` is these and
-- then the initial values.
pub record StatementGives (library : Library) (scope : Scope) (expr_trees initials : ExprTrees) (values : List ValueTree)
    : Type 0 where
  pub own : List ValueTree
  pub made : ℕ
  pub own_given : outcomes_of (evaluate library scope level_limit) expr_trees 0 ≡ all_end_with (AllGive own) made
  pub all_given : (initial_outcomes library initials own made).results ≡ AllGive values
