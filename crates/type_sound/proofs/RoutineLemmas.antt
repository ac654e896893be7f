-- What is known of what a frame executes in an accepted program: its statements are well typed, its slots have the
-- types that they are declared with, and it ends with `return` unless its result type is `Unit`.
--
--   `IsRoutine`, `routine_is`      what is known of a routine, and that it is so of each one that is found
--   `method_has_routine`           each body of a method has a routine
--   `parameter_has_type`           the slot of a parameter has a declared type
--   `routine_of_method`            the object of a method is of its class, whose fields it sees
use Rattle.std.proofs.Common.{◌≡◌, ◌<◌, ◌⊎◌, inl, inr, ℕ, Bool, true, false, true≢false, List, [], ◌++◌, map, length, replicate, All, Option, Some, None, option_and_then, refl, sym, ap, ◌∙◌, subst, arith, slice_get, codes, ◌||◌}
use Rattle.std.proofs.lemmas.Slice.Eq.{bytes_eq-Decides}
use Rattle.std.proofs.lemmas.List.{length-map}
use Rattle.std.proofs.lemmas.Option.{none-some, same_Some, option_and_then_some}
use Rattle.abs_profile.specs.Accepted.{IsAcceptedProgram}
use Rattle.abs_program.specs.Members.{method_of}
use Rattle.abs_program.specs.OwnSlots.{HasOwnSlots, MemberHasOwnSlots, DeclarationHasOwnSlots}
use Rattle.abs_program.specs.ProgramBodies.{BodyAt, class_body, IsBodyOf, OfMain, OfMethod}
use Rattle.abs_program.specs.Slots.{statements_slots, body_slots}
use Rattle.abs_tree.specs.Syntax.{Name, ParamTree, SignatureTree, MethodTree, DeclTree, ClassTree, Statements, ProgramTree}
use Rattle.abs_types.proofs.ProgramLemmas.{program_found}
use Rattle.abs_types.specs.Endings.{ends_with_return}
use Rattle.abs_types.specs.InterfacesMet.{same_type}
use Rattle.abs_types.specs.IsTyped.{AreTyped}
use Rattle.abs_types.specs.OperatorTypes.{unit_type}
use Rattle.abs_types.specs.PlainTypes.{PlainType, PlainInt, PlainString, PlainBottom, PlainNull, PlainFut, PlainData, PlainApplied, PlainInterface, PlainClass, PlainParameter, plain}
use Rattle.abs_types.specs.Schemes.{param_types}
use Rattle.abs_types.specs.TypedProgram.{IsTypedMethod}
use Rattle.abs_types.specs.TypeOffences.{field_types, method_frame}
use Rattle.abs_types.specs.Typing.{known_at}
use Rattle.config_state.specs.Bodies.{method_at}
use Rattle.config_state.specs.Configurations.{ObjectState}
use Rattle.list_facts.proofs.AllLemmas.{All-slice_get}
use Rattle.list_facts.proofs.EntryLemmas.{slice_get-there}
use Rattle.type_sound.proofs.SlotLemmas.{length-slot_types, declared-param}
use Rattle.type_sound.specs.Routines.{Routine, declared_types, main_routine, class_tree, fields_if_there, fields_of_class, member_in_class, method_tree_in, method_tree, member_routine, method_routine, routine_found}
use Rattle.type_sound.proofs.MemberLemmas.{IsOfClass, body_is_of_class, body_is_of_method, class_name_is, class_is_typed, method_is_typed}

-- What is known of what a frame executes. Its parameters are those of the method, or none in the main block. Each
-- declaration has a slot of its own, and at first the parameters alone have a type.
pub record IsRoutine (program : ProgramTree) (routine : Routine) : Type 0 where
  pub is_last : Bool
  pub typed : AreTyped program.source.declarations routine.start is_last routine.body.statements
  pub body_is : IsBodyOf program.source routine.body
  pub slot_count : length routine.slots ≡ length (body_slots routine.body.params routine.body.statements)
  pub task : routine.start.task ≡ Some routine.result
  pub ends : (routine.result ≡ unit_type) ⊎ (ends_with_return routine.body.statements ≡ true)
  pub params : List ParamTree
  pub param_count : routine.body.params ≡ length params
  pub declared : routine.slots ≡ declared_types params routine.body.statements
  pub own_slots : HasOwnSlots params routine.body.statements
  pub begins : routine.start.slots
      ≡ map Some (param_types params) ++ replicate (length (statements_slots routine.body.statements)) None

-- the routine of a method of a class with this name, by its head and its body
abbrev routine_with : ProgramTree → Name → SignatureTree → BodyAt → Routine
routine_with program class signature body = record {
  body = body;
  start = method_frame class (fields_of_class program class) signature body.statements;
  slots = declared_types signature.params body.statements;
  result = plain signature.result;
}

-- The body of a method is that of a member of the class with this name, and the routine with its head is found.
record HasRoutine (program : ProgramTree) (class method : Name) (body : BodyAt) : Type 0 where
  index : ℕ
  member : ℕ
  found : class_body 0 program.source.declarations index member ≡ Some body
  of : IsOfClass (slice_get program.source.declarations index) member body
  name_is : of.name.name ≡ class
  fields_are : fields_of_class program class ≡ param_types of.params ++ field_types of.members
  is : method_routine program class method ≡ Some (routine_with program class of.method.signature body)

-- this is known of each body of a method
has_routine : (program : ProgramTree) (class method : Name) (body : BodyAt)
    → method_at program class method ≡ Some body → HasRoutine program class method body
has_routine program class method body is =
    let declarations = program.source.declarations in
    let fields = fields_of_class program class in
    let named = body_is_of_method program class method body is in
    let of = body_is_of_class 0 declarations named.index named.member body named.found in
    let tree_is : class_tree program class
    ≡ Some (ClassTree of.place of.name of.params of.implemented of.members) =
    ap (option_and_then (slice_get declarations)) named.index_is ∙ of.is in
    let method_is : method_tree program class method
    ≡ Some (MethodTree of.method.signature of.method.end body.statements) =
    ap (option_and_then (λ (index : ℕ). method_tree_in declarations index method)) named.index_is
    ∙ (ap (option_and_then (λ (declaration : DeclTree).
    option_and_then (member_in_class declaration) (method_of declarations named.index method))) of.is
    ∙ (ap (option_and_then (λ (index : ℕ). slice_get of.members index)) named.member_is ∙ of.method.is)) in
    record {
      index = named.index;
      member = named.member;
      found = named.found;
      of = of;
      name_is =
          class_name_is program class named.index of.place of.name of.params of.implemented of.members named.index_is
          of.is;
      fields_are = ap fields_if_there tree_is;
      is =
          ap (option_and_then (λ (one : BodyAt).
          option_and_then (member_routine class fields one) (method_tree program class method))) is
          ∙ ap (option_and_then (member_routine class fields body)) method_is;
    }

-- Each body of a method has a routine.
pub method_has_routine : (program : ProgramTree) (class method : Name) (body : BodyAt)
    → method_at program class method ≡ Some body
    → (routine : Routine) × (method_routine program class method ≡ Some routine) × (routine.body ≡ body)
method_has_routine program class method body is =
    let has = has_routine program class method body is in
    (routine_with program class has.of.method.signature body, has.is, refl)

-- a type that is the same as data by the test is that data
same_data : (type : PlainType) (name : Name) → same_type type (PlainData name) ≡ true → type ≡ PlainData name
same_data (PlainData own) name is = ap PlainData ((bytes_eq-Decides own name).0 is)
same_data PlainInt name is = absurd (true≢false (sym is))
same_data PlainString name is = absurd (true≢false (sym is))
same_data PlainBottom name is = absurd (true≢false (sym is))
same_data PlainNull name is = absurd (true≢false (sym is))
same_data (PlainFut value) name is = absurd (true≢false (sym is))
same_data (PlainApplied head argument) name is = absurd (true≢false (sym is))
same_data (PlainInterface own) name is = absurd (true≢false (sym is))
same_data (PlainClass own) name is = absurd (true≢false (sym is))
same_data (PlainParameter index) name is = absurd (true≢false (sym is))

-- a method that ends as it is to has the result type `Unit`, or ends with `return`
unit_or_return : (result : PlainType) (body : Statements) (is_unit : Bool) → same_type result unit_type ≡ is_unit
    → (is_unit || ends_with_return body) ≡ true → (result ≡ unit_type) ⊎ (ends_with_return body ≡ true)
unit_or_return result body true same ends = inl (same_data result (codes "Unit") same)
unit_or_return result body false same ends = inr ends

-- the routine of a method of an accepted program
method_routine_is : (program : ProgramTree) → IsAcceptedProgram program → (class method : Name) (body : BodyAt)
    → (has : HasRoutine program class method body)
    → IsRoutine program (routine_with program class has.of.method.signature body)
method_routine_is program accepted class method body has =
    let declarations = program.source.declarations in
    let of = has.of in
    let signature = of.method.signature in
    let fields = param_types of.params ++ field_types of.members in
    let whole = program_found program.source accepted.well_typed in
    let class_typed = class_is_typed declarations declarations 0 has.index _ whole.classes of.is in
    let typed : IsTypedMethod declarations of.name.name fields signature body.statements =
    method_is_typed declarations of.name.name fields (param_types of.params) of.members has.member signature
    of.method.end body.statements class_typed.1.1 of.method.is in
    let typed_as : IsTypedMethod declarations class (fields_of_class program class) signature body.statements =
    subst (λ (one : List PlainType). IsTypedMethod declarations class one signature body.statements)
    (sym has.fields_are)
    (subst (λ (one : Name). IsTypedMethod declarations one fields signature body.statements) has.name_is typed) in
    let own : All MemberHasOwnSlots of.members =
    All-slice_get DeclarationHasOwnSlots declarations has.index _ accepted.whole.own_slots.declarations of.is in
    record {
      is_last = true;
      typed = typed_as.body_is;
      body_is = OfMethod has.index has.member has.found;
      slot_count =
          length-slot_types signature.params body.statements
          ∙ ap (λ (count : ℕ). length (body_slots count body.statements)) (sym of.method.param_count);
      task = refl;
      ends =
          unit_or_return (plain signature.result) body.statements
          (same_type (plain signature.result) unit_type) refl typed_as.ends;
      params = signature.params;
      param_count = of.method.param_count;
      declared = refl;
      own_slots = All-slice_get MemberHasOwnSlots of.members has.member _ own of.method.is;
      begins = refl;
    }

-- the main block of an accepted program
main_routine_is : (program : ProgramTree) → IsAcceptedProgram program → IsRoutine program (main_routine program)
main_routine_is program accepted = record {
  is_last = false;
  typed = (program_found program.source accepted.well_typed).main_is;
  body_is = OfMain refl;
  slot_count = length-slot_types [] program.source.main;
  task = refl;
  ends = inl refl;
  params = [];
  param_count = refl;
  declared = refl;
  own_slots = accepted.whole.own_slots.main;
  begins = refl;
}

-- What is known of a routine is so of each one that is found.
pub routine_is : (program : ProgramTree) → IsAcceptedProgram program → (object : Option ObjectState)
    (method : Option Name) (routine : Routine) → routine_found program object method ≡ Some routine
    → IsRoutine program routine
routine_is program accepted None None routine is =
    subst (IsRoutine program) (same_Some (main_routine program) routine is) (main_routine_is program accepted)
routine_is program accepted (Some object) None routine is = absurd (none-some routine is)
routine_is program accepted None (Some method) routine is = absurd (none-some routine is)
routine_is program accepted (Some object) (Some method) routine is =
    option_and_then_some (λ (body : BodyAt).
    option_and_then (member_routine object.class (fields_of_class program object.class) body)
    (method_tree program object.class method)) (method_at program object.class method) routine is
    (λ body body_is found.
    let has = has_routine program object.class method body body_is in
    subst (IsRoutine program) (same_Some _ routine (sym has.is ∙ is))
    (method_routine_is program accepted object.class method body has))

-- The slot of a parameter has a declared type.
pub parameter_has_type : (program : ProgramTree) → IsAcceptedProgram program → (object : Option ObjectState)
    (method : Option Name) (routine : Routine) (slot : ℕ) → routine_found program object method ≡ Some routine
    → slot < routine.body.params → (type : PlainType) × (known_at routine.slots slot ≡ Some type)
parameter_has_type program accepted object method routine slot found below =
    let is = routine_is program accepted object method routine found in
    let counted = length-map is.params (λ (param : ParamTree). plain param.type_of) in
    let own = slice_get-there (param_types is.params) slot (omega (arith, below, is.param_count, counted)) in (
      own.0,
      ap (λ (slots : List (Option PlainType)). known_at slots slot) is.declared
          ∙ declared-param is.params routine.body.statements slot own.0 own.1,
    )

-- The object of a method is of its class, whose fields it sees.
pub routine_of_method : (program : ProgramTree) (class method : Name) (routine : Routine)
    → method_routine program class method ≡ Some routine
    → (routine.start.this ≡ Some class) × (routine.start.fields ≡ fields_of_class program class)
routine_of_method program class method routine is =
    option_and_then_some (λ (body : BodyAt).
    option_and_then (member_routine class (fields_of_class program class) body) (method_tree program class method))
    (method_at program class method) routine is
    (λ body body_is found.
    let has = has_routine program class method body body_is in
    let same = same_Some _ routine (sym has.is ∙ is) in (
      sym (ap (λ (one : Routine). one.start.this) same),
      sym (ap (λ (one : Routine). one.start.fields) same),
    ))
