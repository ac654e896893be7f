-- The classes and the bodies that a configuration names, as they are found in a program.
--
--   `class_index`, `class_taking`      the class with a name, and what a new object of it takes
--   `main_at`, `method_at`             the main block, and the method with a name of the class with a name
--   `body_of`                          the body that a frame executes
use Rattle.std.specs.Prelude.{ℕ, List, Option, Some, None, option_and_then}
use Rattle.std.specs.Option.{option_map}
use Rattle.abs_program.specs.Bodies.{ClassEntryTree, class_entry}
use Rattle.abs_program.specs.Members.{method_of}
use Rattle.abs_program.specs.NameSpaces.{spaces_of}
use Rattle.abs_program.specs.ProgramBodies.{BodyAt, main_body, class_body}
use Rattle.abs_program.specs.Tables.{meaning_of}
use Rattle.abs_tree.specs.Syntax.{Name, DeclTree, ProgramTree}
use Rattle.config_state.specs.Configurations.{ObjectState, FrameState, Configuration, object_at}

-- the index of the declaration of the class with a name
abbrev pub class_index : ProgramTree → Name → Option ℕ
class_index program class =
    option_map (λ taking. taking.declaration) (meaning_of (spaces_of program.source.declarations).classes class)

-- what a new object of the class with a name takes
abbrev pub class_taking : ProgramTree → Name → Option ClassEntryTree
class_taking program class = option_and_then (class_entry program.source.declarations) (class_index program class)

-- the body of the main block
abbrev pub main_at : ProgramTree → BodyAt
main_at program = main_body program.source

-- the body of the method with a name of the class at an index
unfoldable pub method_in_class : List DeclTree → ℕ → Name → Option BodyAt
method_in_class declarations class method =
    option_and_then (class_body 0 declarations class) (method_of declarations class method)

-- the body of the method with a name of the class with a name
abbrev pub method_at : ProgramTree → Name → Name → Option BodyAt
method_at program class method =
    option_and_then (λ index. method_in_class program.source.declarations index method) (class_index program class)

-- the body that a frame executes, by its object, the index of that, and its method: the main block has neither an
-- object nor a method, and a method has both
abbrev pub body_found : ProgramTree → Option ObjectState → Option ℕ → Option Name → Option BodyAt
body_found program object None None = Some (main_at program)
body_found program (Some object) (Some index) (Some method) = method_at program object.class method
body_found program object index method = None

abbrev pub body_of : ProgramTree → Configuration → FrameState → Option BodyAt
body_of program config frame = body_found program (object_at config frame.object) frame.object frame.method
