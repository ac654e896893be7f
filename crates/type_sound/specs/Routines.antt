-- What frames execute, with its types.
--
--   `Routine`                          a body with the types around it, of its slots, and of its result
--   `main_routine`                     the main block
--   `fields_of_class`, `method_tree`   the types of the fields of a class, and a method of it
--   `method_routine`                   a method of a class
--   `routine_of`                       what a frame executes
--   `result_of_task`                   the result type of a task
use Rattle.std.specs.Prelude.{ℕ, List, [], ◌++◌, map, slice_get, Option, Some, None, option_and_then}
use Rattle.std.specs.Option.{option_map}
use Rattle.abs_program.specs.Members.{method_of}
use Rattle.abs_program.specs.ProgramBodies.{BodyAt}
use Rattle.abs_tree.specs.Syntax.{Name, ParamTree, MemberTree, FieldTree, MethodTree, DeclTree, DataTree, FunctionTree, InterfaceTree, ClassTree, Statements, ProgramTree}
use Rattle.abs_types.specs.OperatorTypes.{unit_type}
use Rattle.abs_types.specs.PlainTypes.{PlainType, plain}
use Rattle.abs_types.specs.Schemes.{param_types}
use Rattle.abs_types.specs.SlotTypes.{slot_types}
use Rattle.abs_types.specs.TypeOffences.{field_types, main_frame, method_frame}
use Rattle.abs_types.specs.Typing.{Frame}
use Rattle.config_state.specs.Bodies.{class_index, main_at, method_at}
use Rattle.config_state.specs.Configurations.{ObjectState, FrameState, TaskState, Configuration, object_at}

-- what a frame executes: a body; what is around its first statement; the declared type of each of its slots, which a
-- slot for the result of a call does not have; and the type of its result
pub record Routine : Type 0 where
  pub body : BodyAt
  pub start : Frame
  pub slots : List (Option PlainType)
  pub result : PlainType

-- the declared types of the slots of a body with these parameters
abbrev pub declared_types : List ParamTree → Statements → List (Option PlainType)
declared_types params statements = map (option_map plain) (slot_types params statements)

-- the main block
abbrev pub main_routine : ProgramTree → Routine
main_routine program = record {
  body = main_at program;
  start = main_frame program.source.main;
  slots = declared_types [] program.source.main;
  result = unit_type;
}

-- the declaration of the class with a name
abbrev pub class_tree : ProgramTree → Name → Option DeclTree
class_tree program class = option_and_then (slice_get program.source.declarations) (class_index program class)

-- the types of the fields of a class, its parameters first
abbrev pub fields_in_class : DeclTree → List PlainType
fields_in_class (ClassTree place name params implemented members) = param_types params ++ field_types members
fields_in_class (DataTree place name type_params constructors) = []
fields_in_class (FunctionTree place result name type_params params value) = []
fields_in_class (InterfaceTree place name extended signatures) = []

abbrev pub fields_if_there : Option DeclTree → List PlainType
fields_if_there (Some declaration) = fields_in_class declaration
fields_if_there None = []

-- those of the class with a name
abbrev pub fields_of_class : ProgramTree → Name → List PlainType
fields_of_class program class = fields_if_there (class_tree program class)

-- the member at an index of a class
abbrev pub member_in_class : DeclTree → ℕ → Option MemberTree
member_in_class (ClassTree place name params implemented members) index = slice_get members index
member_in_class (DataTree place name type_params constructors) index = None
member_in_class (FunctionTree place result name type_params params value) index = None
member_in_class (InterfaceTree place name extended signatures) index = None

-- the method with a name of the class at an index
abbrev pub method_tree_in : List DeclTree → ℕ → Name → Option MemberTree
method_tree_in declarations class method =
    option_and_then (λ declaration. option_and_then (member_in_class declaration) (method_of declarations class method))
    (slice_get declarations class)

-- the method with a name of the class with a name
abbrev pub method_tree : ProgramTree → Name → Name → Option MemberTree
method_tree program class method =
    option_and_then (λ index. method_tree_in program.source.declarations index method) (class_index program class)

-- the method of a class whose fields have these types, by its body
abbrev pub member_routine : Name → List PlainType → BodyAt → MemberTree → Option Routine
member_routine class fields body (MethodTree signature end statements) = Some (record {
  body = body;
  start = method_frame class fields signature statements;
  slots = declared_types signature.params statements;
  result = plain signature.result;
})
member_routine class fields body (FieldTree type name initial) = None

-- the method with a name of the class with a name
abbrev pub method_routine : ProgramTree → Name → Name → Option Routine
method_routine program class method =
    option_and_then (λ body. option_and_then (member_routine class (fields_of_class program class) body)
    (method_tree program class method)) (method_at program class method)

-- by the object and the method: the main block has neither, and a method has both
abbrev pub routine_found : ProgramTree → Option ObjectState → Option Name → Option Routine
routine_found program None None = Some (main_routine program)
routine_found program (Some object) (Some method) = method_routine program object.class method
routine_found program (Some object) None = None
routine_found program None (Some method) = None

-- what a frame executes
abbrev pub routine_of : ProgramTree → Configuration → FrameState → Option Routine
routine_of program config frame = routine_found program (object_at config frame.object) frame.method

-- the result type of a task, which that of the main block and one that is not found have as `Unit`
abbrev pub result_or_unit : Option Routine → PlainType
result_or_unit (Some routine) = routine.result
result_or_unit None = unit_type

abbrev pub result_of_task : ProgramTree → Configuration → TaskState → PlainType
result_of_task program config task = result_or_unit (routine_found program (object_at config task.object) task.method)
