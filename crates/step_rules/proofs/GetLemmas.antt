-- Which running tasks have no change: those whose next statement gets a future that is unresolved.
--
--   `gets_nothing`             a statement that gets a future evaluates nothing
--   `running_none`             a running task without a change is at an open `get`
--   `open_get_none`            a task at an open `get` has no change
use Rattle.std.proofs.Common.{◌≡◌, ℕ, true, List, [], ◌∷◌, slice_get, Option, Some, None, option_and_then, refl, sym, ap, ap₂, ◌∙◌}
use Rattle.std.proofs.lemmas.Option.{same_Some}
use Rattle.abs_program.specs.Control.{Point, program_points}
use Rattle.abs_values.specs.Evaluation.{initial_outcomes}
use Rattle.abs_program.specs.Instructions.{EffectTree, Skips, Suspends, Awaits, Chooses, Returns, Prints, Clears, Stores, Makes, Sends, CallsOwn, CallsOther, Gets, side_expr_trees, side_effect, expr_trees_of, effect_of}
use Rattle.abs_values.specs.Results.{Result, Gives, Fails, Results, AllGive, OneFails}
use Rattle.abs_program.specs.Slots.{is_this}
use Rattle.abs_tree.specs.Syntax.{Name, VariableTree, OwnCallOf, ExprTrees, NoExpr, NextExpr, SideTree, NewOf, ValueOf, SendOf, GetOf, CallOf, NoSide, SomeSide, Statement, DeclareOf, AssignOf, DoOf, ProgramTree}
use Rattle.abs_values.specs.ValueTrees.{ValueTree, FutureValue, NullValue}
use Rattle.config_state.specs.Configurations.{FrameState, TaskState, Configuration, object_at, fields_of}
use Rattle.config_state.specs.OfProgram.{next_point}
use Rattle.config_state.specs.declared.task.State.TheVariants.{Running}
use Rattle.step_rules.specs.Blocked.{IsAtOpenGet}
use Rattle.step_rules.specs.Events.{statement_change, other_change, with_output, local_or_other, run_change}
use Rattle.step_rules.specs.Inputs.{scope_of, exprs_at, initials_for, initials_at, input_in, output_of}
use Rattle.step_rules.specs.LocalRules.{Local, used_of, statement_rule, next_rule, local_rule}
use Rattle.step_rules.specs.Lookups.{Runner, successor, named_value, class_of}
use Rattle.step_rules.specs.WaitRules.{get_by_outcome, get_by_task, get_rule}
use Rattle.abs_program.proofs.InstructionLemmas.{neither_gets}

-- a right side that gets a future evaluates nothing
side_gets_nothing : (side : SideTree) (goal : Option VariableTree) (slot : Option ℕ) (target : Option VariableTree)
    → side_effect side goal ≡ Gets slot target → side_expr_trees side ≡ NoExpr
side_gets_nothing (GetOf place get_place future) goal slot target is = refl
side_gets_nothing (CallOf place method NoExpr named) goal slot target is = refl
side_gets_nothing (CallOf place method (NextExpr receiver arguments) named) goal slot target is =
    absurd (neither_gets (is_this receiver) (CallsOwn method goal) (CallsOther method named goal) slot target
    (λ own. absurd cc) (λ other. absurd cc) is)
side_gets_nothing (NewOf place mode class_place class arguments) goal slot target is = absurd cc
side_gets_nothing (SendOf place method operands) goal slot target is = absurd cc
side_gets_nothing (ValueOf place (OwnCallOf at method arguments)) goal slot target is = absurd cc
side_gets_nothing (ValueOf place value) goal slot target is = absurd cc

-- a statement that gets a future evaluates nothing
pub gets_nothing : (statement : Statement) (slot : Option ℕ) (target : Option VariableTree)
    → effect_of statement ≡ Gets slot target → expr_trees_of statement ≡ NoExpr
gets_nothing (DeclareOf index place type variable_place variable NoSide) slot target is = refl
gets_nothing (DeclareOf index place type variable_place variable (SomeSide side)) slot target is =
    side_gets_nothing side _ slot target is
gets_nothing (AssignOf index place goal side) slot target is = side_gets_nothing side _ slot target is
gets_nothing (DoOf index place side) slot target is = side_gets_nothing side _ slot target is
gets_nothing _ slot target is = absurd cc

-- where nothing is evaluated, there is no value
nothing_given : (program : ProgramTree) (config : Configuration) (frame : FrameState)
    → output_of program (record { scope = scope_of config frame; expr_trees = NoExpr; initials = NoExpr }) ≡ AllGive []
unfolding output_of initial_outcomes
nothing_given program config frame = refl

module _ (program : ProgramTree) (config : Configuration) (at : Runner)
    (innermost : slice_get at.task.frames 0 ≡ Some at.frame) where
  -- a statement without a change gets a future
  stuck_gets : (class : Option Name) (fields : List ValueTree) (point : Point) (values : List ValueTree)
      (effect : EffectTree)
      → statement_rule (used_of program class) at.frame at.others fields point values effect ≡ None
      → statement_change program config at point values effect ≡ None
      → (slot : Option ℕ) × (target : Option VariableTree) × (effect ≡ Gets slot target)
      × (get_rule config at (successor point.goes true) target (named_value at.frame.slots slot) ≡ None)
  stuck_gets class fields point values (Gets slot target) local other = (slot, target, refl, other)
  stuck_gets class fields point values Skips local other = absurd cc
  stuck_gets class fields point values Suspends local other = absurd cc
  stuck_gets class fields point values (Awaits names) local other = absurd cc
  stuck_gets class fields point values Chooses local other = absurd cc
  stuck_gets class fields point values Returns local other = absurd cc
  stuck_gets class fields point values Prints local other = absurd cc
  stuck_gets class fields point values (Clears target) local other = absurd cc
  stuck_gets class fields point values (Stores target) local other = absurd cc
  stuck_gets class fields point values (Makes mode name target) local other = absurd cc
  stuck_gets class fields point values (Sends method target) local other = absurd cc
  stuck_gets class fields point values (CallsOwn method target) local other = absurd cc
  stuck_gets class fields point values (CallsOther method slot target) local other = absurd cc

  -- a future that cannot be got is unresolved
  stuck_open : (point : Point) (next : Option ℕ) (target : Option VariableTree) (slot : Option ℕ)
      → next_point program at.frame ≡ Some point → effect_of point.statement ≡ Gets slot target
      → get_rule config at next target (named_value at.frame.slots slot) ≡ None
      → IsAtOpenGet program config at.task
  stuck_open point next target None there gets none = absurd cc
  stuck_open point next target (Some slot) there gets none = by_value (slice_get at.frame.slots slot) refl none
    where
      by_outcome : (future : ℕ) → slice_get at.frame.slots slot ≡ Some (FutureValue future) → (task : TaskState)
          → slice_get config.tasks future ≡ Some task → (outcome : Option Result) → task.outcome ≡ outcome
          → get_by_outcome config at next target outcome ≡ None → IsAtOpenGet program config at.task
      by_outcome future holds task found None is stuck = record {
        frame = at.frame;
        innermost = innermost;
        point = point;
        point_there = there;
        slot = slot;
        target = target;
        gets = gets;
        future = future;
        holds = holds;
        unresolved = record { task = task; there = found; open_still = is };
      }
      by_outcome future holds task found (Some (Gives value)) is stuck = absurd cc
      by_outcome future holds task found (Some (Fails cause)) is stuck = absurd cc

      by_task : (future : ℕ) → slice_get at.frame.slots slot ≡ Some (FutureValue future) → (found : Option TaskState)
          → slice_get config.tasks future ≡ found → get_by_task config at next target found ≡ None
          → IsAtOpenGet program config at.task
      by_task future holds None is stuck = absurd cc
      by_task future holds (Some task) is stuck = by_outcome future holds task is task.outcome refl stuck

      by_value : (value : Option ValueTree) → slice_get at.frame.slots slot ≡ value
          → get_rule config at next target value ≡ None → IsAtOpenGet program config at.task
      by_value (Some (FutureValue future)) is stuck =
          by_task future is (slice_get config.tasks future) refl stuck
      by_value (Some NullValue) is stuck = absurd cc
      by_value value is stuck = absurd cc

  -- a running task without a change is at an open `get`, if its next statement has a point
  pub running_none : ((next : ℕ) → at.frame.next ≡ Some next
      → (point : Point) × (slice_get (program_points program.source) next ≡ Some point))
      → (results : Results) → run_change program config at results ≡ None → IsAtOpenGet program config at.task
  unfolding local_rule
  running_none has_point results none = by_local
      (local_rule (used_of program class) (at.frame ∷ at.others) fields results) refl none
    where
      class : Option Name
      class = class_of (object_at config at.frame.object)

      fields : List ValueTree
      fields = fields_of (object_at config at.frame.object)

      by_next : (values : List ValueTree) (next : Option ℕ) → at.frame.next ≡ next
          → next_rule (used_of program class) at.frame at.others fields values next ≡ None
          → other_change program config at values next ≡ None → IsAtOpenGet program config at.task
      by_next values None is local other = absurd cc
      by_next values (Some next) is local other =
          let point = has_point next is in
          let found = stuck_gets class fields point.0 values (effect_of point.0.statement)
          (rw point.1 at local) (rw point.1 at other) in
          stuck_open point.0 (successor point.0.goes true) found.1 found.0
          (ap (option_and_then (slice_get (program_points program.source))) is ∙ point.1) found.2 found.3

      by_results : (results : Results) → local_rule (used_of program class) (at.frame ∷ at.others) fields results ≡ None
          → with_output program config at results ≡ None → IsAtOpenGet program config at.task
      by_results (OneFails cause) local other = absurd cc
      by_results (AllGive values) local other = by_next values at.frame.next refl local other

      by_local : (local : Option Local)
          → local_rule (used_of program class) (at.frame ∷ at.others) fields results ≡ local
          → local_or_other program config at results local ≡ None → IsAtOpenGet program config at.task
      by_local None is other = by_results results is other
      by_local (Some local) is other = absurd cc

  -- a task at an open `get` has no change
  pub open_get_none : IsAtOpenGet program config at.task
      → run_change program config at (output_of program (input_in program config Running at.frame)) ≡ None
  unfolding local_rule
  open_get_none is = ap (run_change program config at) evaluates
      ∙ (ap (local_or_other program config at (AllGive [])) (no_rule at.frame.next point_there)
      ∙ no_other at.frame.next point_there)
    where
      class : Option Name
      class = class_of (object_at config at.frame.object)

      fields : List ValueTree
      fields = fields_of (object_at config at.frame.object)

      same : at.frame ≡ is.frame
      same = same_Some _ _ (sym innermost ∙ is.innermost)

      point_there : next_point program at.frame ≡ Some is.point
      point_there = ap (next_point program) same ∙ is.point_there

      evaluates : output_of program (input_in program config Running at.frame) ≡ AllGive []
      evaluates = ap₂ (λ (expr_trees initials : ExprTrees). output_of program
          (record { scope = scope_of config at.frame; expr_trees = expr_trees; initials = initials }))
          (ap exprs_at point_there ∙ gets_nothing is.point.statement (Some is.slot) is.target is.gets)
          (ap (initials_at program) point_there ∙ ap (initials_for program) is.gets)
          ∙ nothing_given program config at.frame

      holds : slice_get at.frame.slots is.slot ≡ Some (FutureValue is.future)
      holds = ap (λ (frame : FrameState). slice_get frame.slots is.slot) same ∙ is.holds

      no_rule : (next : Option ℕ) → option_and_then (slice_get (program_points program.source)) next ≡ Some is.point
          → next_rule (used_of program class) at.frame at.others fields [] next ≡ None
      no_rule None found = absurd cc
      no_rule (Some next) found =
          ap (option_and_then (λ (point : Point).
          statement_rule (used_of program class) at.frame at.others fields point [] (effect_of point.statement))) found
          ∙ ap (statement_rule (used_of program class) at.frame at.others fields is.point []) is.gets

      no_other : (next : Option ℕ) → option_and_then (slice_get (program_points program.source)) next ≡ Some is.point
          → other_change program config at [] next ≡ None
      no_other None found = absurd cc
      no_other (Some next) found =
          let goes = successor is.point.goes true in
          ap (option_and_then (λ (point : Point).
          statement_change program config at point [] (effect_of point.statement))) found
          ∙ (ap (statement_change program config at is.point []) is.gets
          ∙ (ap (get_rule config at goes is.target) holds
          ∙ (ap (get_by_task config at goes is.target) is.unresolved.there
          ∙ ap (get_by_outcome config at goes is.target) is.unresolved.open_still)))
