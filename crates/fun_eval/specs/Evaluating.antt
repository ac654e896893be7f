-- What the evaluator says of its parts. These words serve contracts of this crate alone.
--
--   `names_in`, `library_in`, `declarations_in`        the names, the library and the declarations of its program
--   `arguments_in`, `bound_in`         its stacks, as trees
--   `scope_in`, `evaluator_scope`             what a frame reads, with these stacks, and with those of an evaluator
--   `AreWithin`, `IsWithin`            what a frame reads is on the stacks
--   `gives_in`, `outcome_in`           the outcome of each expression, and after the applications so far
--   `IsStopped`, `IsOutcome`           the code stops as this result says; it gives this outcome
--   `Stays`                            program and stacks are as before
--   `Binds`                            one more variable is bound
--   `AddedArguments`, `GivesValues`    the values of a list were added; they are given
--   `GivesAll`                         so are the values of all expressions of a statement
--   `ChosenBranch`                     the branch of a case was chosen
use Rattle.std.specs.Prelude.{◌≡◌, ⊤, ℕ, ◌+◌, ◌≤◌, List, [], ◌∷◌, ◌++◌, drop, take, length, map, Result, Ok, Err, None}
use Rattle.abs_values.specs.Evaluation.{Outcome, Outcomes, all_end_with, branches_outcome, ends_with, evaluate, outcome_after}
use Rattle.abs_values.specs.Results.{Result as ResultTree, Gives, Fails, AllGive, OneFails, Results}
use Rattle.abs_values.specs.Scopes.{Library, Scope, library_of}
use Rattle.abs_program.specs.NamedViews.{named_tree, program_tree}
use Rattle.abs_tree.specs.Syntax.{Name, DeclTree, ExprTree}
use Rattle.abs_tree.specs.SyntaxViews.{branches as branch_trees, expr_tree}
use Rattle.abs_values.specs.ValueTrees.{ValueTree}
use Rattle.abs_values.specs.ValueViews.{value_tree}
use Rattle.abs_tree.specs.declared.syntax.expression.Branch.{Branch}
use Rattle.abs_values.specs.declared.value.Value.{Value}
use Rattle.std.specs.declared.alloc.Global.{Global}
use Rattle.std.specs.declared.vec.Vec.{Vec}
use Rattle.fun_eval.specs.Matching.{Begins}
use Rattle.fun_eval.specs.declared.evaluator.Evaluator.{Evaluator}
use Rattle.fun_eval.specs.declared.scope.Frame.{Frame}
use Rattle.fun_eval.specs.declared.scope.Frame.TheVariants as frame
use Rattle.fun_eval.specs.declared.stop.Stop.{Stop}
use Rattle.fun_eval.specs.declared.stop.Stop.TheVariants as stop

abbrev pub names_in : Evaluator → List Name
names_in evaluator = evaluator.library.program.now.symbols

abbrev pub declarations_in : Evaluator → List DeclTree
declarations_in evaluator = (named_tree evaluator.library.program.now).declarations

abbrev pub library_in : Evaluator → Library
library_in evaluator = library_of (program_tree evaluator.library.program.now)

-- the trees of the arguments on the stack, and of the bound variables
abbrev pub arguments_in : Evaluator → List ValueTree
arguments_in evaluator = map value_tree evaluator.arguments.items

abbrev pub bound_in : Evaluator → List ValueTree
bound_in evaluator = map value_tree evaluator.bound.items

-- what a frame reads where the stacks of arguments and of bound variables are these
abbrev pub scope_in : Frame → List ValueTree → List ValueTree → Scope
scope_in (frame.Statement scope) arguments bound = record {
  this = scope.this;
  slots = map value_tree scope.slots.now;
  fields = map value_tree scope.fields.now;
  bound = bound;
}
scope_in (frame.Function first count from) arguments bound = record {
  this = None;
  slots = take count (drop first arguments);
  fields = [];
  bound = drop from bound;
}

abbrev pub evaluator_scope : Frame → Evaluator → Scope
evaluator_scope frame evaluator = scope_in frame (arguments_in evaluator) (bound_in evaluator)

-- what a frame reads from the stacks is on them, if they are so long
abbrev pub AreWithin : Frame → ℕ → ℕ → Type 0
AreWithin (frame.Statement scope) arguments bound = ⊤
AreWithin (frame.Function first count from) arguments bound = (first + count ≤ arguments) × (from ≤ bound)

abbrev pub IsWithin : Frame → Evaluator → Type 0
IsWithin frame evaluator = AreWithin frame (length evaluator.arguments.items) (length evaluator.bound.items)

-- the outcome of each expression after some applications, in a frame of the evaluator and with some levels left
abbrev pub gives_in : Evaluator → Frame → ℕ → ExprTree → ℕ → Outcome
gives_in evaluator frame left = evaluate (library_in evaluator) (evaluator_scope frame evaluator) left

-- the outcome of each expression after the applications so far, in a frame of the evaluator and with some levels left
abbrev pub outcome_in : Evaluator → Frame → ℕ → ExprTree → Outcome
outcome_in evaluator frame left expr_tree = gives_in evaluator frame left expr_tree evaluator.applications

-- The code stops with the fault of this result. Or memory runs out.
abbrev pub IsStopped : ResultTree → Stop → Type 0
IsStopped expected (stop.Fault cause) = expected ≡ Fails cause
IsStopped expected stop.Memory = ⊤

-- The code gives this outcome: its value, after as many applications, or its fault. Or memory runs out.
abbrev pub IsOutcome : Outcome → Result Value Stop → Evaluator → Type 0
IsOutcome expected (Ok value) now = expected ≡ ends_with (Gives (value_tree value)) now.applications
IsOutcome expected (Err cause) now = IsStopped expected.result cause

-- The program is the same, and the stacks are as before.
pub record Stays (before now : Evaluator) : Type 0 where
  pub library_is : now.library ≡ before.library
  pub arguments_are : arguments_in now ≡ arguments_in before
  pub bound_are : bound_in now ≡ bound_in before

-- One more variable is bound, and all else is as before.
pub record Binds (value : ValueTree) (before now : Evaluator) : Type 0 where
  pub library_is : now.library ≡ before.library
  pub arguments_are : arguments_in now ≡ arguments_in before
  pub bound_are : bound_in now ≡ bound_in before ++ value ∷ []
  pub applications_are : now.applications ≡ before.applications

-- The code stops with the fault of a list of expressions. Or memory runs out.
abbrev pub AreStopped : Results → Stop → Type 0
AreStopped expected (stop.Fault cause) = expected ≡ OneFails cause
AreStopped expected stop.Memory = ⊤

-- The values of a list of expressions were added to the arguments, and all else is as before.
pub record AddedArguments (expected : Outcomes) (before now : Evaluator) : Type 0 where
  pub begins : Begins (arguments_in before) (arguments_in now)
  pub are : expected
      ≡ all_end_with (AllGive (drop (length (arguments_in before)) (arguments_in now))) now.applications
  pub library_is : now.library ≡ before.library
  pub bound_are : bound_in now ≡ bound_in before

-- The code gives these values of a list of expressions. Or one of them gives a fault, or memory runs out.
abbrev pub GivesValues : Outcomes → Result (Vec Value Global) Stop → Evaluator → Type 0
GivesValues expected (Ok values) now =
    expected ≡ all_end_with (AllGive (map value_tree values.items)) now.applications
GivesValues expected (Err cause) now = AreStopped expected.results cause

-- The code gives these values of a list of expressions, whatever the evaluator is then. Or one of them gives a fault,
-- or memory runs out.
abbrev pub GivesAll : Results → Result (Vec Value Global) Stop → Type 0
GivesAll expected (Ok values) = expected ≡ AllGive (map value_tree values.items)
GivesAll expected (Err cause) = AreStopped expected cause

-- The value of the subject chooses a branch: the outcome of the case is that of this branch, where the values that were
-- added are bound. All else is as before.
pub record ChosenBranch (subject : Outcome) (branches : List Branch) (branch : Branch) (before now : Evaluator)
    : Type 0 where
  pub begins : Begins (bound_in before) (bound_in now)
  pub is : (give : List ValueTree → ExprTree → ℕ → Outcome)
      → outcome_after subject (branches_outcome (names_in before) give (branch_trees (names_in before) branches))
      ≡ give (drop (length (bound_in before)) (bound_in now)) (expr_tree (names_in before) branch.value) now.applications
  pub library_is : now.library ≡ before.library
  pub arguments_are : arguments_in now ≡ arguments_in before
