-- The configurations of the code without their memory, for a table of names.
--
--   `object_state`, `frame_state`, `task_state`    an object, a frame and a task
--   `configuration_of`                             cogs, objects and tasks
use Rattle.std.specs.Prelude.{List, map, reverse}
use Rattle.std.specs.Option.{option_map}
use Rattle.abs_tree.specs.Names.{name_of}
use Rattle.abs_values.specs.Results.{result_tree}
use Rattle.abs_tree.specs.Syntax.{Name}
use Rattle.config_state.specs.Configurations.{ObjectState, FrameState, TaskState, Configuration}
use Rattle.config_state.specs.declared.cog.Cog.{Cog}
use Rattle.config_state.specs.declared.frame.Frame.{Frame}
use Rattle.config_state.specs.declared.object.ObjectCell.{ObjectCell}
use Rattle.config_state.specs.declared.task.TaskCell.{TaskCell}

-- an object
abbrev pub object_state : List Name → ObjectCell → ObjectState
object_state names object = record {
  cog = object.cog;
  place = object.place;
  class = name_of names object.class;
  fields = object.fields;
}

-- a frame
abbrev pub frame_state : List Name → Frame → FrameState
frame_state names frame = record {
  method = option_map (name_of names) frame.method;
  object = frame.object;
  slots = frame.slots;
  next = frame.next;
  target = frame.target;
}

-- a task, whose innermost frame is the last of the code's frames
abbrev pub task_state : List Name → TaskCell → TaskState
task_state names task = record {
  cog = task.cog;
  object = task.object;
  method = option_map (name_of names) task.method;
  call = task.call;
  frames = reverse (map (frame_state names) task.frames);
  state = task.state;
  outcome = option_map result_tree task.outcome;
}

-- a configuration with these cogs, objects and tasks
abbrev pub configuration_of : List Name → List Cog → List ObjectCell → List TaskCell → Configuration
configuration_of names cogs objects tasks =
    record { cogs = cogs; objects = map (object_state names) objects; tasks = map (task_state names) tasks }
