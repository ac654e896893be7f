-- Cogs were made by a `new cog` at their place, and each task is that of the main block or of a method. A change keeps
-- this.
--
--   `cog_for-made_by`              the cog that a `new` makes
--   `task_for-called`              a new task of a method
--   `method_task-stays`            a task of a method stays one
--   `cogs_made-after`              the cogs after a change
--   `tasks_called-after`           the tasks after a change
use Rattle.std.proofs.Common.{◌≡◌, ℕ, List, slice_get, Option, Some, refl, sym, ap, ◌∙◌, arith}
use Rattle.std.proofs.lemmas.Option.{same_Some, slice_get_within}
use Rattle.abs_program.specs.Control.{Point, program_points}
use Rattle.abs_program.specs.Instructions.{Makes, effect_of}
use Rattle.abs_program.specs.ProgramBodies.{BodyAt}
use Rattle.abs_tree.specs.Syntax.{Name, VariableTree, ProgramTree}
use Rattle.abs_tree.specs.declared.syntax.statement.Mode.{Mode}
use Rattle.abs_tree.specs.declared.syntax.statement.Mode.TheVariants as mode
use Rattle.abs_values.specs.ValueTrees.{ValueTree}
use Rattle.config_state.specs.Bodies.{method_at}
use Rattle.config_state.specs.Configurations.{ObjectState, TaskState, Configuration, Each}
use Rattle.config_state.specs.declared.cog.Cog.{Cog}
use Rattle.step_rules.proofs.AfterLemmas.{task-after, object-there, cog-after}
use Rattle.step_rules.specs.Changes.{Change, configuration_after}
use Rattle.step_rules.specs.Homes.{IsCogMade, IsMainTask, IsMethodTask, IsCalled, OfMain, OfMethod}
use Rattle.step_rules.specs.Lookups.{place_of}
use Rattle.step_rules.specs.NewEntries.{task_for, cog_for}
use Rattle.step_rules.specs.Stays.{IsSameTask, TaskAfter, Moved, Old, New, CogAfter, Untouched, Held, Founded, Stays}

-- the cog that a `new` makes
pub cog_for-made_by : (program : ProgramTree) (statement : ℕ) (point : Point) (made : Mode) (class : Name)
    (target : Option VariableTree) (parent : ℕ) (cog : Cog)
    → slice_get (program_points program.source) statement ≡ Some point
    → effect_of point.statement ≡ Makes made class target → cog_for made parent (place_of point) ≡ Some cog
    → IsCogMade program cog
cog_for-made_by program statement point mode.Cog class target parent cog there makes is = record {
  statement = statement;
  point = point;
  there = there;
  class = class;
  target = target;
  makes = makes;
  at_place = ap (λ (one : Cog). one.place) (same_Some _ cog is);
}
cog_for-made_by program statement point mode.Plain class target parent cog there makes is = absurd cc
cog_for-made_by program statement point (mode.Local at) class target parent cog there makes is = absurd cc

-- a cog at the place of one that was made
cog_made-same : (program : ProgramTree) (before after : Cog) → IsCogMade program before → after.place ≡ before.place
    → IsCogMade program after
cog_made-same program before after is same = record {
  statement = is.statement;
  point = is.point;
  there = is.there;
  class = is.class;
  target = is.target;
  makes = is.makes;
  at_place = is.at_place ∙ sym same;
}

-- a new task of a method
pub task_for-called : (program : ProgramTree) (config : Configuration) (body : BodyAt) (cog object : ℕ)
    (cell : ObjectState) (method : Name) (call : Option ℕ) (arguments : List ValueTree)
    → slice_get config.objects object ≡ Some cell → method_at program cell.class method ≡ Some body
    → IsMethodTask program config (task_for body cog object method call arguments)
task_for-called program config body cog object cell method call arguments there found = record {
  object = object;
  cell = cell;
  method = method;
  body = body;
  object_is = refl;
  there = there;
  method_is = refl;
  body_there = found;
}

-- a task with the object and the method of one of a method
method_task-same : (program : ProgramTree) (config : Configuration) (before after : TaskState)
    → IsMethodTask program config before → IsSameTask before after → IsMethodTask program config after
method_task-same program config before after is same = record {
  object = is.object;
  cell = is.cell;
  method = is.method;
  body = is.body;
  object_is = same.object ∙ is.object_is;
  there = is.there;
  method_is = same.method ∙ is.method_is;
  body_there = is.body_there;
}

-- a task that is the same one as that of the main block
main_task-same : (before after : TaskState) → IsMainTask before → IsSameTask before after → IsMainTask after
main_task-same before after is same = record {
  in_first = same.cog ∙ is.in_first;
  no_object = same.object ∙ is.no_object;
  no_method = same.method ∙ is.no_method;
  no_call = same.call ∙ is.no_call;
}

-- a task that is the same one is of the main block or of a method too
called-same : (program : ProgramTree) (config : Configuration) (index : ℕ) (before after : TaskState)
    → IsCalled program config index before → IsSameTask before after → IsCalled program config index after
called-same program config index before after (OfMain first is) same =
    OfMain first (main_task-same before after is same)
called-same program config index before after (OfMethod later is) same =
    OfMethod later (method_task-same program config before after is same)

module _ (program : ProgramTree) (config : Configuration) (index : ℕ) (change : Change) where
  -- a task of a method stays one
  pub method_task-stays : (task : TaskState) → IsMethodTask program config task
      → IsMethodTask program (configuration_after config index change) task
  method_task-stays task is =
      let now = object-there config index change is.object is.cell is.there in record {
        object = is.object;
        cell = now.0;
        method = is.method;
        body = is.body;
        object_is = is.object_is;
        there = now.1;
        method_is = is.method_is;
        body_there = rw now.2.class is.body_there;
      }

  -- a task stays that of the main block or of a method
  called-stays : (other : ℕ) (task : TaskState) → IsCalled program config other task
      → IsCalled program (configuration_after config index change) other task
  called-stays other task (OfMain first is) = OfMain first is
  called-stays other task (OfMethod later is) = OfMethod later (method_task-stays task is)

  -- the cogs after a change that makes one by a `new cog`, or none
  pub cogs_made-after : Each config.cogs (λ other cog. (parent : ℕ) → cog.parent ≡ Some parent → IsCogMade program cog)
      → ((cog : Cog) → change.cog ≡ Some cog → IsCogMade program cog)
      → Each (configuration_after config index change).cogs (λ other cog. (parent : ℕ) → cog.parent ≡ Some parent
      → IsCogMade program cog)
  cogs_made-after made new other cog there parent has = by_cog (cog-after config index change other cog there)
    where
      by_cog : CogAfter config change other cog → IsCogMade program cog
      by_cog (Untouched differs was) = made other cog was parent has
      by_cog (Held before at was is) = cog_made-same program before cog
          (made other before was parent (sym (ap (λ (one : Cog). one.parent) is) ∙ has))
          (ap (λ (one : Cog). one.place) is)
      by_cog (Founded last is) = new cog is

  -- the tasks after a change that makes one of a method, or none
  pub tasks_called-after : Each config.tasks (IsCalled program config) → Stays config index change
      → ((task : TaskState) → change.new ≡ Some task
      → IsMethodTask program (configuration_after config index change) task)
      → Each (configuration_after config index change).tasks
      (IsCalled program (configuration_after config index change))
  tasks_called-after called stays new other task there = by_task (task-after config index change other task there)
    where
      by_task : TaskAfter config index change other task
          → IsCalled program (configuration_after config index change) other task
      by_task (Moved at is) = rw at (rw is (called-stays index change.task
          (called-same program config index stays.task change.task (called index stays.task stays.there)
          stays.is_same)))
      by_task (Old differs was) = called-stays other task (called other task was)
      by_task (New last is) = OfMethod
          (omega (arith, last, slice_get_within config.tasks index stays.task stays.there)) (new task is)
