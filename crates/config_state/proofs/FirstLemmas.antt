-- The first configuration of a program is well-formed and of the program, and the code's is that one.
--
--   `null-there`                               nothing is inside null
--   `first-well_formed`, `first-of_program`    the first configuration is well-formed and of the program
--   `first_frame`, `first_task`, `first_cog`   the parts of the code's first configuration
--   `configuration-is_first`                   a configuration with these parts is the first one
use Rattle.std.proofs.Common.{◌≡◌, ℕ, ◌-◌, List, [], ◌∷◌, None, arith, refl, ap, ◌∙◌, length, replicate}
use Rattle.std.proofs.lemmas.List.{length-replicate}
use Rattle.std.proofs.lemmas.Option.{none-some}
use Rattle.abs_program.specs.Bodies.{main_entry}
use Rattle.abs_values.specs.References.{IsIn}
use Rattle.abs_program.specs.Slots.{body_slots}
use Rattle.abs_tree.specs.Syntax.{Name, ProgramTree}
use Rattle.abs_values.specs.ValueTrees.{ValueTree, NullValue}
use Rattle.abs_program.specs.declared.tables.control.BodyEntry.{BodyEntry}
use Rattle.config_state.proofs.BodyLemmas.{entry_is_statement}
use Rattle.config_state.proofs.EachLemmas.{Each-none, Each-one, Each-replicate}
use Rattle.abs_program.specs.ProgramBodies.{entry_of_body}
use Rattle.config_state.specs.Bodies.{main_at}
use Rattle.config_state.specs.Configurations.{FrameState, Configuration}
use Rattle.config_state.specs.First.{frame_for, first}
use Rattle.config_state.specs.OfProgram.{IsFrameOf, IsTaskOf, IsConfigOf}
use Rattle.config_state.specs.Views.{configuration_of}
use Rattle.config_state.specs.WellFormed.{ValueIsThere, IsCogFormed, IsFrameFormed, IsTaskFormed, IsWellFormed}
use Rattle.config_state.specs.declared.cog.Cog.{Cog}
use Rattle.config_state.specs.declared.frame.Frame.{Frame}
use Rattle.config_state.specs.declared.frame.Target.TheVariants.{Nothing}
use Rattle.config_state.specs.declared.object.ObjectCell.{ObjectCell}
use Rattle.config_state.specs.declared.task.State.TheVariants.{Ready}
use Rattle.config_state.specs.declared.task.TaskCell.{TaskCell}

-- nothing is inside null
pub null-there : (config : Configuration) → ValueIsThere config NullValue
unfolding IsIn
null-there config reference inside = absurd inside

-- the frame and the task of the main block
abbrev main_frame : ProgramTree → FrameState
main_frame program = frame_for (entry_of_body (main_at program)) None None [] Nothing

-- The first configuration of a program is well-formed.
pub first-well_formed : (program : ProgramTree) → IsWellFormed (first program)
first-well_formed program = record {
  cogs_formed = Each-one (IsCogFormed (first program)) _ (record {
    parent_earlier = λ parent is. absurd (none-some parent is);
    first_alone = λ none. refl;
    holder_runs = λ task is. absurd (none-some task is);
  });
  objects_formed = Each-none _;
  tasks_formed = Each-one (IsTaskFormed (first program)) _ (record {
    cog_there = omega arith;
    object_there = λ object is. absurd (none-some object is);
    frames_formed = Each-one (λ depth frame. IsFrameFormed (first program) frame) (main_frame program) (record {
      object_there = λ object is. absurd (none-some object is);
      slots_there =
          Each-replicate (ValueIsThere (first program)) _ NullValue (null-there (first program));
    });
    result_there = λ value is. absurd (none-some _ is);
    ended = λ result is. absurd (none-some result is);
    unfinished = λ open_still none. absurd cc;
    holds_cog = λ runs. absurd cc;
  });
}

-- It is of the program.
pub first-of_program : (program : ProgramTree) → IsConfigOf program (first program)
first-of_program program = record {
  objects_are = Each-none _;
  tasks_are = Each-one (λ index task. IsTaskOf program (first program) task) _ (record {
    frames_are = Each-one (λ depth frame. IsFrameOf program (first program) frame) (main_frame program) (record {
      body = main_at program;
      body_there = refl;
      slots_are =
          length-replicate (length (body_slots 0 program.source.main) - 0) NullValue ∙ omega arith;
      next_is = λ index is. entry_is_statement (main_at program) index is;
    });
    targets_are = Each-one _ (main_frame program) tt;
    awaiting = λ awaits. absurd cc;
  });
}

-- the code's first frame, task and cog
abbrev pub first_frame : BodyEntry → List ValueTree → Frame
first_frame main slots =
    record { method = None; object = None; slots = slots; next = main.first; target = Nothing }

abbrev pub first_task : List Frame → TaskCell
first_task frames = record {
  cog = 0;
  object = None;
  method = None;
  call = None;
  frames = frames;
  state = Ready;
  outcome = None;
}

abbrev pub first_cog : Cog
first_cog = record { parent = None; place = 0; holder = None }

-- A configuration of the code with these parts is the first one, for each table of names.
pub configuration-is_first : (program : ProgramTree) (names : List Name) (main : BodyEntry) {slots : List ValueTree}
    {frames : List Frame} {tasks : List TaskCell} {cogs : List Cog} {objects : List ObjectCell}
    → main ≡ main_entry program.source → slots ≡ replicate main.slots NullValue
    → frames ≡ first_frame main slots ∷ [] → tasks ≡ first_task frames ∷ [] → cogs ≡ first_cog ∷ [] → objects ≡ []
    → configuration_of names cogs objects tasks ≡ first program
configuration-is_first program names main {slots} {frames} {tasks} {cogs} {objects} main_is slots_are frames_are
    tasks_are cogs_are objects_are =
    let with_tasks = λ (all : List TaskCell). configuration_of names (first_cog ∷ []) [] all in
    let with_frames = λ (all : List Frame). with_tasks (first_task all ∷ []) in
    let with_slots = λ (entry : BodyEntry) (all : List ValueTree). with_frames (first_frame entry all ∷ []) in
    let entry = main_entry program.source in
    let count : entry.slots ≡ entry.slots - 0 = omega arith in
    ap (λ (all : List Cog). configuration_of names all objects tasks) cogs_are
    ∙ (ap (λ (all : List ObjectCell). configuration_of names (first_cog ∷ []) all tasks) objects_are
    ∙ (ap with_tasks tasks_are
    ∙ (ap with_frames frames_are
    ∙ (ap (with_slots main) slots_are
    ∙ (ap (λ (one : BodyEntry). with_slots one (replicate one.slots NullValue)) main_is
    ∙ ap (λ (n : ℕ). with_slots entry (replicate n NullValue)) count)))))
