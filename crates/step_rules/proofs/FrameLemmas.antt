-- Frames of the program: one that goes on, one at the start of a body, and lists of frames.
--
--   `successor_is`                 control goes to a statement of the same body
--   `body_of_object`               the body of a frame is that of a method
--   `moved_frame`, `started_frame` a frame that goes on, and one at the start of the body of a method
--   `AreFramesOf`, ..              frames of which the target of each is in the one below
--   `run_task_is`                  the task of a new object
--   `run_takes_none`               the method that runs at once has no parameter
use Rattle.std.proofs.Common.{◌≡◌, ◌≢◌, ℕ, zero, suc, ◌+◌, ◌-◌, Bool, true, false, inl, inr, List, [], ◌∷◌, ◌++◌, length, replicate, slice_get, Option, Some, None, refl, sym, ap, ◌∙◌, subst, arith, codes, nat_eq, option_and_then, option_map}
use Rattle.std.specs.List.{range_with_len}
use Rattle.std.proofs.lemmas.Bool.{and_parts}
use Rattle.std.proofs.lemmas.Bool.Decides.{Decides-eqb}
use Rattle.std.proofs.lemmas.List.{length-append, length-map, length-replicate}
use Rattle.std.proofs.lemmas.List.FromFn.{length-range_with_len}
use Rattle.std.proofs.lemmas.Option.{same_Some, option_and_then_some, cond_some}
use Rattle.abs_program.proofs.DeclaredLemmas.{class_is_declared}
use Rattle.abs_program.specs.Bodies.{ClassEntryTree, is_unit, starts_alone, if_alone, entry_of_class, class_entry}
use Rattle.abs_program.specs.Control.{Goes, Next, ByAnswer, Point, program_points}
use Rattle.abs_program.specs.Members.{method_among, method_in, method_of}
use Rattle.abs_program.specs.NameSpaces.{spaces_of}
use Rattle.abs_program.specs.NamedDeclarations.{IsClass}
use Rattle.abs_program.specs.Slots.{body_slots, param_slots, statements_slots}
use Rattle.abs_tree.specs.Syntax.{Name, MemberTree, FieldTree, MethodTree, DeclTree, ProgramTree}
use Rattle.abs_tree.specs.SyntaxSizes.{member_statements}
use Rattle.abs_program.specs.Tables.{meaning_of}
use Rattle.abs_values.specs.ValueTrees.{ValueTree, NullValue}
use Rattle.abs_program.specs.declared.name_spaces.Taking.{Taking}
use Rattle.abs_tree.specs.declared.syntax.slot.Slot.TheVariants.{Parameter}
use Rattle.config_state.proofs.BodyLemmas.{body_of-found, branch_is_statement, entry_is_statement, next_is_statement}
use Rattle.config_state.proofs.EachLemmas.{Each-none, Each-more}
use Rattle.config_state.proofs.StatementLemmas.{class_body-member}
use Rattle.abs_program.specs.ProgramBodies.{BodyAt, IsBodyOf, IsStatementOf, entry_of_body, member_body, class_body}
use Rattle.config_state.specs.Bodies.{class_taking, method_in_class, method_at, body_found}
use Rattle.config_state.specs.Configurations.{ObjectState, FrameState, TaskState, Configuration, Each, object_at}
use Rattle.config_state.specs.First.{frame_for}
use Rattle.config_state.specs.OfProgram.{IsFrameOf, IsTaskOf, TargetIsIn, next_point}
use Rattle.config_state.specs.declared.frame.Target.{Target}
use Rattle.config_state.specs.declared.frame.Target.TheVariants.{Nothing}
use Rattle.config_state.specs.declared.task.State.TheVariants.{Awaiting}
use Rattle.step_rules.specs.Lookups.{callable, successor, taking}
use Rattle.step_rules.specs.NewEntries.{task_for, run_task}

-- control goes to a statement of the same body
successor_in : (program : ProgramTree) (body : BodyAt) (index : ℕ) (point : Point) (answer : Bool) (next : ℕ)
    → IsBodyOf program.source body → IsStatementOf body index → slice_get (program_points program.source) index ≡ Some point
    → successor point.goes answer ≡ Some next → IsStatementOf body next
successor_in program body index point answer next found inside there is = by_goes point.goes refl answer is
  where
    by_goes : (goes : Goes) → point.goes ≡ goes → (answer : Bool) → successor goes answer ≡ Some next
        → IsStatementOf body next
    by_goes (Next one) goes answer is =
        next_is_statement program body index point next found inside there (goes ∙ ap Next is)
    by_goes (ByAnswer when_true when_false) goes true is =
        branch_is_statement program body index point when_true when_false next found inside there goes (inl is)
    by_goes (ByAnswer when_true when_false) goes false is =
        branch_is_statement program body index point when_true when_false next found inside there goes (inr is)

-- after its next statement a frame goes on at a statement of its body
pub successor_is : (program : ProgramTree) (config : Configuration) (frame : FrameState) (point : Point) (answer : Bool)
    (is : IsFrameOf program config frame) → next_point program frame ≡ Some point
    → (next : ℕ) → successor point.goes answer ≡ Some next → IsStatementOf is.body next
successor_is program config frame point answer is at next goes =
    option_and_then_some (slice_get (program_points program.source)) frame.next point at (λ index now there.
    successor_in program is.body index point answer next (body_of-found program config frame is.body is.body_there)
    (is.next_is index now) there goes)

-- the body that a frame of an object executes is that of a method of the object's class
pub body_of_object : (program : ProgramTree) (cell : Option ObjectState) (index : ℕ) (method : Option Name)
    (body : BodyAt) → body_found program cell (Some index) method ≡ Some body
    → (object : ObjectState) × (name : Name) × (cell ≡ Some object) × (method ≡ Some name)
    × (method_at program object.class name ≡ Some body)
body_of_object program None index None body is = absurd cc
body_of_object program None index (Some name) body is = absurd cc
body_of_object program (Some object) index None body is = absurd cc
body_of_object program (Some object) index (Some name) body is = (object, name, refl, refl, is)

-- a frame that goes on, with as many slots, is one of the program
pub moved_frame : (program : ProgramTree) (config : Configuration) (frame : FrameState) (slots : List ValueTree)
    (next : Option ℕ) (is : IsFrameOf program config frame) → length slots ≡ length frame.slots
    → ((index : ℕ) → next ≡ Some index → IsStatementOf is.body index)
    → IsFrameOf program config (record frame { slots = slots; next = next })
moved_frame program config frame slots next is as_many goes = record {
  body = is.body;
  body_there = is.body_there;
  slots_are = as_many ∙ is.slots_are;
  next_is = goes;
}

-- a method that takes this number of arguments is one of the class, and has as many parameters
pub callable_is : (program : ProgramTree) (class method : Name) (count : ℕ) (body : BodyAt)
    → callable program class method count ≡ Some body
    → (method_at program class method ≡ Some body) × (body.params ≡ count)
callable_is program class method count body is =
    option_and_then_some (taking count) (method_at program class method) body is (λ one found takes.
    let parts = cond_some (nat_eq one.params count) one body takes in (
      found ∙ ap Some parts.1,
      ap (λ (made : BodyAt). made.params) (sym parts.1) ∙ (Decides-eqb one.params count).0 parts.0,
    ))

-- the task of a new object runs the method that starts alone
pub run_task_is : (program : ProgramTree) (cog object : ℕ) (class : Name) (run : Option ℕ) (task : TaskState)
    → run_task program cog object class run ≡ Some task
    → (alone : ℕ) × (body : BodyAt) × (run ≡ Some alone) × (method_at program class (codes "run") ≡ Some body)
    × (task_for body cog object (codes "run") None [] ≡ task)
run_task_is program cog object class None task is = absurd cc
run_task_is program cog object class (Some alone) task is = by_body (method_at program class (codes "run")) refl is
  where
    by_body : (found : Option BodyAt) → method_at program class (codes "run") ≡ found
        → option_map (λ (body : BodyAt). task_for body cog object (codes "run") None []) found ≡ Some task
        → (own : ℕ) × (body : BodyAt) × (Some alone ≡ Some own) × (method_at program class (codes "run") ≡ Some body)
        × (task_for body cog object (codes "run") None [] ≡ task)
    by_body None found is = absurd cc
    by_body (Some body) found is = (alone, body, refl, found, same_Some _ task is)

-- the arguments and the other slots are the slots of the body
started_slots : (body : BodyAt) (arguments : List ValueTree) → body.params ≡ length arguments
    → length (arguments ++ replicate ((entry_of_body body).slots - (entry_of_body body).params) NullValue)
    ≡ length (body_slots body.params body.statements)
started_slots body arguments takes =
    let slots = length (body_slots body.params body.statements) in
    let params = length-map (range_with_len 0 body.params) Parameter ∙ length-range_with_len 0 body.params in
    omega (
      arith,
      takes,
      params,
      length-append (param_slots body.params) (statements_slots body.statements),
      length-append arguments (replicate (slots - body.params) NullValue),
      length-replicate (slots - body.params) NullValue,
    )

-- a frame at the start of the body of a method of its object is one of the program
pub started_frame : (program : ProgramTree) (config : Configuration) (object : Option ℕ) (cell : ObjectState)
    (method : Name) (body : BodyAt) (arguments : List ValueTree) (target : Target) → object_at config object ≡ Some cell
    → method_at program cell.class method ≡ Some body → body.params ≡ length arguments
    → IsFrameOf program config (frame_for (entry_of_body body) (Some method) object arguments target)
started_frame program config None cell method body arguments target at found takes = absurd cc
started_frame program config (Some object) cell method body arguments target at found takes = record {
  body = body;
  body_there = rw at found;
  slots_are = started_slots body arguments takes;
  next_is = entry_is_statement body;
}

-- Frames of the program: the target of each is in the one below.
pub record AreFramesOf (program : ProgramTree) (config : Configuration) (frames : List FrameState) : Type 0 where
  pub frames_are : Each frames (λ depth frame. IsFrameOf program config frame)
  pub targets_are : Each frames (λ depth frame. TargetIsIn config (slice_get frames (suc depth)) frame.target)

-- the frames of a task are such
pub frames_of_task : (program : ProgramTree) (config : Configuration) (task : TaskState) (frames : List FrameState)
    → IsTaskOf program config task → task.frames ≡ frames → AreFramesOf program config frames
frames_of_task program config task frames is same =
    subst (AreFramesOf program config) same (record { frames_are = is.frames_are; targets_are = is.targets_are })

-- a task with such frames that does not wait is one of the program
pub task_of_frames : (program : ProgramTree) (config : Configuration) (task : TaskState)
    → AreFramesOf program config task.frames → task.state ≢ Awaiting → IsTaskOf program config task
task_of_frames program config task are goes =
    record { frames_are = are.frames_are; targets_are = are.targets_are; awaiting = λ is. absurd (goes is) }

-- no frame
pub no_frames : (program : ProgramTree) (config : Configuration) → AreFramesOf program config []
no_frames program config = record { frames_are = Each-none _; targets_are = Each-none _ }

-- one more frame, whose target is in the innermost one
pub more_frames : (program : ProgramTree) (config : Configuration) (frame : FrameState) (others : List FrameState)
    → IsFrameOf program config frame → TargetIsIn config (slice_get others 0) frame.target
    → AreFramesOf program config others → AreFramesOf program config (frame ∷ others)
more_frames program config frame others is fits are = record {
  frames_are = Each-more _ frame others is are.frames_are;
  targets_are = Each-more (λ depth one. TargetIsIn config (slice_get (frame ∷ others) (suc depth)) one.target) frame
      others fits are.targets_are;
}

-- one frame, whose target is nothing
pub one_frame : (program : ProgramTree) (config : Configuration) (frame : FrameState) → IsFrameOf program config frame
    → frame.target ≡ Nothing → AreFramesOf program config (frame ∷ [])
one_frame program config frame is nothing = more_frames program config frame [] is
    (subst (TargetIsIn config None) (sym nothing) tt) (no_frames program config)

-- the frames below the innermost one
pub other_frames : (program : ProgramTree) (config : Configuration) (frame : FrameState) (others : List FrameState)
    → AreFramesOf program config (frame ∷ others) → AreFramesOf program config others
other_frames program config frame others are = record {
  frames_are = λ depth. are.frames_are (suc depth);
  targets_are = λ depth. are.targets_are (suc depth);
}

-- the innermost frame with its target, and another state
pub moved_frames : (program : ProgramTree) (config : Configuration) (frame now : FrameState) (others : List FrameState)
    → AreFramesOf program config (frame ∷ others) → IsFrameOf program config now → now.target ≡ frame.target
    → AreFramesOf program config (now ∷ others)
moved_frames program config frame now others are is same =
    more_frames program config now others is
    (subst (TargetIsIn config (slice_get others 0)) (sym same) (are.targets_are 0 frame refl))
    (other_frames program config frame others are)

-- a method that starts alone has no parameter
alone_takes_none : (index : ℕ) (members : List MemberTree) (member own alone : ℕ) (body : BodyAt)
    → member_body index members member ≡ Some body → if_alone own (slice_get members member) ≡ Some alone
    → body.params ≡ 0
alone_takes_none index [] member own alone body is starts = absurd cc
alone_takes_none index (MethodTree signature end statements ∷ others) zero own alone body is starts =
    let tests = cond_some (starts_alone (MethodTree signature end statements)) own alone starts in
    let parts = and_parts (nat_eq (length signature.params) 0) (is_unit signature.result) tests.0 in
    ap (λ (one : BodyAt). one.params) (sym (same_Some _ body is))
    ∙ (Decides-eqb (length signature.params) 0).0 parts.0
alone_takes_none index (FieldTree type name initial ∷ others) zero own alone body is starts = absurd cc
alone_takes_none index (first ∷ others) (suc member) own alone body is starts =
    alone_takes_none (index + member_statements (first ∷ [])) others member own alone body is starts

-- the method `run` of an active class has no parameter
pub run_takes_none : (program : ProgramTree) (class : Name) (entry : ClassEntryTree) (alone : ℕ) (body : BodyAt)
    → class_taking program class ≡ Some entry → entry.run ≡ Some alone
    → method_at program class (codes "run") ≡ Some body → body.params ≡ 0
unfolding class_entry method_in_class method_of
run_takes_none program class entry alone body taking starts found =
    by_meaning (meaning_of (spaces_of declarations).classes class) refl taking found
  where
    declarations : List DeclTree
    declarations = program.source.declarations

    by_member : (taken : Taking) (own : IsClass declarations class taken) (member : Option ℕ)
        → option_and_then (λ (at : ℕ). if_alone at (slice_get own.members at)) member ≡ Some alone
        → option_and_then (class_body 0 declarations taken.declaration) member ≡ Some body → body.params ≡ 0
    by_member taken own None starts found = absurd cc
    by_member taken own (Some member) starts found =
        let at = class_body-member 0 declarations taken.declaration member body own.place own.declared own.params
        own.implemented own.members own.there found in
        alone_takes_none at.0 own.members member member alone body at.1 starts

    by_meaning : (meaning : Option Taking) → meaning_of (spaces_of declarations).classes class ≡ meaning
        → option_and_then (λ (index : ℕ). option_and_then entry_of_class (slice_get declarations index))
        (option_map (λ (taken : Taking). taken.declaration) meaning) ≡ Some entry
        → option_and_then (λ (index : ℕ). option_and_then (class_body 0 declarations index)
        (option_and_then (λ (declaration : DeclTree). method_in declaration (codes "run"))
        (slice_get declarations index))) (option_map (λ (taken : Taking). taken.declaration) meaning) ≡ Some body
        → body.params ≡ 0
    by_meaning None means taking found = absurd cc
    by_meaning (Some taken) means taking found =
        let own = class_is_declared declarations class taken means in
        by_member taken own (method_among 0 own.members (codes "run"))
        (ap (λ (one : ClassEntryTree). one.run) (same_Some _ entry (rw own.there at taking)) ∙ starts)
        (rw own.there at found)
