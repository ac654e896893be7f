-- What the expressions of the next statement can read has its type: nothing is pending in the innermost frame of a task
-- that runs.
--
--   `InnermostFrame`, `innermost`      the innermost frame is of the program, and typed with nothing pending
--   `routine_body`                     the body that a frame executes is that of its routine
--   `scope_at_next`                    the scope of the next statement has what is visible there, without a task
use Rattle.std.proofs.Common.{◌≡◌, ◌+◌, ◌<◌, ℕ, List, [], ◌∷◌, ◌++◌, Option, Some, None, length, refl, sym, ap, ◌∙◌, subst, arith, length-append, option_map}
use Rattle.std.specs.Prelude.{slice_get, option_and_then}
use Rattle.std.proofs.lemmas.Option.{none-some, same_Some, option_and_then_some, slice_get-map, slice_get_within}
use Rattle.abs_profile.specs.Accepted.{IsAcceptedProgram}
use Rattle.abs_program.specs.Control.{Point}
use Rattle.abs_program.specs.ProgramBodies.{BodyAt}
use Rattle.abs_program.specs.Slots.{body_slots}
use Rattle.abs_tree.specs.Syntax.{Name, DeclTree, ExprTrees, NoExpr, NextExpr, FieldTree, MethodTree, MemberTree, ProgramTree}
use Rattle.abs_tree.specs.SyntaxCounts.{count_exprs}
use Rattle.abs_types.proofs.SubtypingLemmas.{fits_reflexive}
use Rattle.abs_types.specs.Applications.{replaced}
use Rattle.abs_types.specs.PlainTypes.{PlainType, PlainClass}
use Rattle.abs_types.specs.Typing.{known_at}
use Rattle.abs_values.specs.ValueTrees.{ValueTree, ObjectValue}
use Rattle.config_state.specs.Bodies.{body_found, body_of, main_at, method_at}
use Rattle.config_state.specs.Configurations.{ObjectState, FrameState, Configuration, object_at, fields_of}
use Rattle.config_state.specs.OfProgram.{IsFrameOf, IsConfigOf}
use Rattle.config_state.specs.declared.frame.Target.TheVariants.{Nothing}
use Rattle.list_facts.proofs.EntryLemmas.{slice_get-there}
use Rattle.step_rules.specs.Inputs.{scope_of}
use Rattle.step_rules.specs.Lookups.{Runner}
use Rattle.step_rules.specs.RuleParts.{IsRunner}
use Rattle.type_sound.proofs.ClassLemmas.{class_is_filled}
use Rattle.type_sound.proofs.InitialLemmas.{replaced_by_none}
use Rattle.type_sound.proofs.Initials.{InitialsFit}
use Rattle.type_sound.proofs.RoutineLemmas.{routine_is, routine_of_method}
use Rattle.type_sound.proofs.TypedPointLemmas.{IsTypedPoint}
use Rattle.type_sound.specs.Routines.{Routine, fields_of_class, main_routine, member_routine, method_routine, method_tree, routine_found, routine_of}
use Rattle.type_sound.specs.Scopes.{HoldsTyped, ScopeHas}
use Rattle.type_sound.specs.Values.{World, ValueHas}
use Rattle.type_sound.specs.WellTyped.{IsFrameTyped, IsWellTyped, SlotHas, world_of}

-- The innermost frame of a task that runs is of the program, and typed with nothing pending.
pub record InnermostFrame (program : ProgramTree) (config : Configuration) (frame : FrameState) : Type 0 where
  pub of_program : IsFrameOf program config frame
  pub typed : IsFrameTyped program config Nothing frame

-- so it is
pub innermost : (program : ProgramTree) (config : Configuration) → IsConfigOf program config
    → IsWellTyped program config → (at : Runner) → IsRunner config at → InnermostFrame program config at.frame
innermost program config of_program typed at runner =
    let first : slice_get at.task.frames 0 ≡ Some at.frame =
    ap (λ (frames : List FrameState). slice_get frames 0) runner.frames_are in
    record {
      of_program = (of_program.tasks_are at.index at.task runner.there).frames_are 0 at.frame first;
      typed = (typed.tasks at.index at.task runner.there).frames 0 at.frame first;
    }

-- the routine of a member has the body that it is made of
member_body_is : (class : Name) (fields : List PlainType) (body : BodyAt) (member : MemberTree) (routine : Routine)
    → member_routine class fields body member ≡ Some routine → body ≡ routine.body
member_body_is class fields body (MethodTree signature end statements) routine is =
    same_Some body routine.body (ap (option_map (λ (one : Routine). one.body)) is)
member_body_is class fields body (FieldTree type name initial) routine is = absurd (none-some routine is)

-- the routine of a method has its body
method_body_is : (program : ProgramTree) (class method : Name) (body : BodyAt) (routine : Routine)
    → method_at program class method ≡ Some body → method_routine program class method ≡ Some routine
    → body ≡ routine.body
method_body_is program class method body routine body_is is =
    let fields = fields_of_class program class in
    option_and_then_some
    (λ found. option_and_then (member_routine class fields found) (method_tree program class method))
    (method_at program class method) routine is
    (λ found found_is made. option_and_then_some (member_routine class fields found) (method_tree program class method)
    routine made
    (λ member member_is made_of.
    same_Some body found (sym body_is ∙ found_is) ∙ member_body_is class fields found member routine made_of))

-- the routine of the main block has its body
main_body_is : (program : ProgramTree) (body : BodyAt) (routine : Routine) → Some (main_at program) ≡ Some body
    → Some (main_routine program) ≡ Some routine → body ≡ routine.body
main_body_is program body routine body_is is =
    sym (same_Some (main_at program) body body_is)
    ∙ ap (λ (one : Routine). one.body) (same_Some (main_routine program) routine is)

-- what is found for an object and a method, or for neither, has the same body
found_body_is : (program : ProgramTree) (object : Option ObjectState) (index : Option ℕ) (method : Option Name)
    (body : BodyAt) (routine : Routine) → body_found program object index method ≡ Some body
    → routine_found program object method ≡ Some routine → body ≡ routine.body
found_body_is program None None None body routine body_is is = main_body_is program body routine body_is is
found_body_is program None (Some index) None body routine body_is is = absurd (none-some body body_is)
found_body_is program (Some object) index None body routine body_is is = absurd (none-some routine is)
found_body_is program None index (Some method) body routine body_is is = absurd (none-some routine is)
found_body_is program (Some object) None (Some method) body routine body_is is = absurd (none-some body body_is)
found_body_is program (Some object) (Some index) (Some method) body routine body_is is =
    method_body_is program object.class method body routine body_is is

-- the body that a frame executes is that of its routine
pub routine_body : (program : ProgramTree) (config : Configuration) (frame : FrameState) (body : BodyAt)
    (routine : Routine) → body_of program config frame ≡ Some body → routine_of program config frame ≡ Some routine
    → body ≡ routine.body
routine_body program config frame body routine body_is is =
    found_body_is program (object_at config frame.object) frame.object frame.method body routine body_is is

-- as many initial values as types
initials_counted : (declarations : List DeclTree) (known : List PlainType) (initials : ExprTrees)
    (types : List PlainType) → InitialsFit declarations known initials types → count_exprs initials ≡ length types
initials_counted declarations known NoExpr [] fit = refl
initials_counted declarations known NoExpr (type ∷ types) fit = absurd fit
initials_counted declarations known (NextExpr first others) [] fit = absurd fit
initials_counted declarations known (NextExpr first others) (type ∷ types) fit =
    omega (arith, initials_counted declarations (known ++ type ∷ []) others types fit.1)

module _ (program : ProgramTree) (config : Configuration) (accepted : IsAcceptedProgram program)
    (of_program : IsConfigOf program config) (typed : IsWellTyped program config) where
  -- an object has a value for each field of its class
  pub fields_counted : (index : ℕ) (object : ObjectState) → slice_get config.objects index ≡ Some object
      → length object.fields ≡ length (fields_of_class program object.class)
  fields_counted index object there =
      let object_of = of_program.objects_are index object there in
      let class = object_of.class in
      let filled = class_is_filled program accepted object.class class object_of.class_there in
      let counted = initials_counted program.source.declarations filled.0 class.initials filled.1 filled.5 in
      let size : length (filled.0 ++ filled.1) ≡ length filled.0 + length filled.1 = length-append filled.0 filled.1 in
      let fields : length (fields_of_class program object.class) ≡ length (filled.0 ++ filled.1) =
      ap (λ (types : List PlainType). length types) filled.3 in
      omega (arith, object_of.fields_are, filled.4, counted, size, fields)

  -- each field of the own object has a value of its type
  fields_have : (index : Option ℕ) (object : Option ObjectState) (method : Option Name) (routine : Routine)
      → object_at config index ≡ object → routine_found program object method ≡ Some routine
      → (field : ℕ) (type : PlainType) → slice_get routine.start.fields field ≡ Some type
      → HoldsTyped program (world_of program config) (fields_of object) field type
  fields_have index None None routine at found field type is =
      let same = same_Some (main_routine program) routine found in
      absurd (none-some type
      (subst (λ (one : Routine). slice_get one.start.fields field ≡ Some type) (sym same) is))
  fields_have index None (Some method) routine at found field type is = absurd (none-some routine found)
  fields_have index (Some object) None routine at found field type is = absurd (none-some routine found)
  fields_have None (Some object) (Some method) routine at found field type is = absurd (none-some object at)
  fields_have (Some index) (Some object) (Some method) routine at found field type is =
      let facts = routine_of_method program object.class method routine found in
      let declared : slice_get (fields_of_class program object.class) field ≡ Some type =
      subst (λ (types : List PlainType). slice_get types field ≡ Some type) facts.1 is in
      let within : field < length object.fields =
      omega (
        arith,
        slice_get_within (fields_of_class program object.class) field type declared,
        fields_counted index object at,
      ) in
      let value = slice_get-there object.fields field within in
      record {
        value = value.0;
        there = value.1;
        has = (typed.objects index object at).fields field value.0 type value.1 declared;
      }

  -- the own object is of the class of `this`
  this_has : (index : Option ℕ) (object : Option ObjectState) (method : Option Name) (routine : Routine)
      → object_at config index ≡ object → routine_found program object method ≡ Some routine
      → (class : Name) → routine.start.this ≡ Some class
      → (own : ℕ) × (index ≡ Some own) × ValueHas program (world_of program config) (ObjectValue own) (PlainClass class)
  unfolding ValueHas world_of
  this_has index None None routine at found class is =
      let same = same_Some (main_routine program) routine found in
      absurd (none-some class (subst (λ (one : Routine). one.start.this ≡ Some class) (sym same) is))
  this_has index None (Some method) routine at found class is = absurd (none-some routine found)
  this_has index (Some object) None routine at found class is = absurd (none-some routine found)
  this_has None (Some object) (Some method) routine at found class is = absurd (none-some object at)
  this_has (Some index) (Some object) (Some method) routine at found class is =
      let facts = routine_of_method program object.class method routine found in
      let same : object.class ≡ class = same_Some object.class class (sym facts.0 ∙ is) in (
        index,
        refl,
        (
          class,
          slice_get-map (λ (one : ObjectState). one.class) config.objects index
              ∙ (ap (option_map (λ (one : ObjectState). one.class)) at ∙ ap Some same),
          fits_reflexive program.source.declarations (PlainClass class),
        ),
      )

  -- a slot that is visible at the next statement has a value of its type, where nothing is pending
  slots_have : (frame : FrameState) (routine : Routine) (statement : ℕ) (point : Point)
      → InnermostFrame program config frame → routine_of program config frame ≡ Some routine
      → frame.next ≡ Some statement → (known : IsTypedPoint program routine statement point)
      → (slot : ℕ) (type : PlainType) → known_at known.frame.slots slot ≡ Some type
      → HoldsTyped program (world_of program config) frame.slots slot type
  slots_have frame routine statement point inner found next known slot type is =
      let facts = known.slots slot type is in
      let object = object_at config frame.object in
      let body_is = routine_body program config frame inner.of_program.body routine inner.of_program.body_there found in
      let size : length frame.slots ≡ length routine.slots =
      inner.of_program.slots_are
      ∙ (ap (λ (body : BodyAt). length (body_slots body.params body.statements)) body_is
      ∙ sym (routine_is program accepted object frame.method routine found).slot_count) in
      let value = slice_get-there frame.slots slot
      (omega (arith, size, known_within routine.slots slot type facts.1)) in
      let same = same_Some inner.typed.routine routine (sym inner.typed.there ∙ found) in
      let own : SlotHas program config inner.typed.routine frame slot =
      inner.typed.seen statement slot next facts.0 (λ pending. absurd cc) in
      record {
        value = value.0;
        there = value.1;
        has = own value.0 type value.1
            (subst (λ (one : Routine). known_at one.slots slot ≡ Some type) (sym same) facts.1);
      }
    where
      known_within : (types : List (Option PlainType)) (index : ℕ) (one : PlainType) → known_at types index ≡ Some one
          → index < length types
      known_within types index one one_is =
          option_and_then_some (λ (entry : Option PlainType). entry) (slice_get types index) one one_is
          (λ entry there entry_is. slice_get_within types index entry there)

-- a value of a type that no type parameter is replaced in
held_by_none : (program : ProgramTree) (world : World) (values : List ValueTree) (index : ℕ) (type : PlainType)
    → HoldsTyped program world values index type → HoldsTyped program world values index (replaced [] type)
held_by_none program world values index type held =
    subst (λ (one : PlainType). HoldsTyped program world values index one) (sym (replaced_by_none type)) held

-- the scope of the next statement has what is visible there, without a task
pub scope_at_next : (program : ProgramTree) (config : Configuration) → IsAcceptedProgram program
    → IsConfigOf program config → IsWellTyped program config → (frame : FrameState) (routine : Routine)
    (statement : ℕ) (point : Point) → InnermostFrame program config frame
    → routine_of program config frame ≡ Some routine → frame.next ≡ Some statement
    → (known : IsTypedPoint program routine statement point)
    → ScopeHas program (world_of program config) [] (record known.frame { task = None }) [] (scope_of config frame)
scope_at_next program config accepted of_program typed frame routine statement point inner found next known =
    let world = world_of program config in
    let object = object_at config frame.object in
    record {
      slots = λ slot type is. held_by_none program world frame.slots slot type
          (slots_have program config accepted of_program typed frame routine statement point inner found next known
          slot type is);
      fields = λ field type is. held_by_none program world (fields_of object) field type
          (fields_have program config accepted of_program typed frame.object object frame.method routine refl found
          field type (subst (λ (types : List PlainType). slice_get types field ≡ Some type) known.fields is));
      bound_count = refl;
      bound_have = λ depth type is. absurd (none-some type is);
      this_has = λ class is. this_has program config accepted of_program typed frame.object object frame.method routine
          refl found class (sym known.this ∙ is);
    }
