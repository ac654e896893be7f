-- What is known in a body of a program, for its contract: its statements, the types of all its slots, those of the
-- fields of `this`, the class of `this`, and the type of its result.
--
--   `BodyContext`                          what is known in a body
--   `field_type_trees`, `class_types`      the types of the fields among members, and of all fields of a class
--   `main_context`, `method_context`       that of the main block, and of a method of a class
--   `whole_frame`                          what is around an expression of a body, with all its slots visible
--   `variable_type_tree`                   the type that a variable of a body is declared with
use Rattle.std.specs.Prelude.{ℕ, List, [], ◌∷◌, ◌++◌, map, slice_get, Option, Some, None, option_map, option_and_then}
use Rattle.abs_program.specs.ProgramBodies.{BodyAt, main_body, class_body}
use Rattle.abs_tree.specs.Syntax.{Name, TypeTree, VariableTree, AtSlot, AtField, ParamTree, MemberTree, FieldTree, MethodTree, DeclTree, ClassTree, SourceTree}
use Rattle.abs_types.specs.OperatorTypes.{unit_type}
use Rattle.abs_types.specs.PlainTypes.{PlainType, plain}
use Rattle.abs_types.specs.SlotTypes.{slot_types}
use Rattle.abs_types.specs.Typing.{Frame}

-- What is known in a body. Neither the main block nor what is outside of a class has `this`, and the main block has no
-- `return`, so no result.
pub record BodyContext : Type 0 where
  pub body : BodyAt
  pub slots : List (Option TypeTree)
  pub fields : List TypeTree
  pub class : Option ℕ
  pub this : Option Name
  pub result : Option TypeTree

-- the types of the fields among members
abbrev pub field_type_trees : List MemberTree → List TypeTree
field_type_trees [] = []
field_type_trees (FieldTree type name initial ∷ others) = type ∷ field_type_trees others
field_type_trees (MethodTree signature end body ∷ others) = field_type_trees others

-- the types of all fields of a class, of which its parameters come first
abbrev pub class_types : List ParamTree → List MemberTree → List TypeTree
class_types params members = map (λ param. param.type_of) params ++ field_type_trees members

-- the context of the main block
abbrev pub main_context : SourceTree → BodyContext
main_context source = record {
  body = main_body source;
  slots = slot_types [] source.main;
  fields = [];
  class = None;
  this = None;
  result = None;
}

-- the context of a member of a class, if it is a method and has this body
abbrev pub member_context : ℕ → Name → List TypeTree → Option MemberTree → Option BodyAt → Option BodyContext
member_context class name fields (Some (MethodTree signature end statements)) (Some body) = Some (record {
  body = body;
  slots = slot_types signature.params statements;
  fields = fields;
  class = Some class;
  this = Some name;
  result = Some signature.result;
})
member_context class name fields _ _ = None

abbrev pub context_in_class : ℕ → ℕ → Option DeclTree → Option BodyAt → Option BodyContext
context_in_class class member (Some (ClassTree place name params implemented members)) body =
    member_context class name.name (class_types params members) (slice_get members member) body
context_in_class class member _ body = None

-- the context of the method at an index of the class at an index of declarations
unfoldable pub method_context : List DeclTree → ℕ → ℕ → Option BodyContext
method_context declarations class member =
    context_in_class class member (slice_get declarations class) (class_body 0 declarations class member)

-- the result type of a task, as types are compared: that of the main block is Unit
abbrev pub task_type : Option TypeTree → PlainType
task_type None = unit_type
task_type (Some type) = plain type

-- What is around an expression of a body, with all its slots visible. An expression that has a type where it is has the
-- same one in this frame.
abbrev pub whole_frame : BodyContext → Frame
whole_frame context = record {
  slots = map (option_map plain) context.slots;
  fields = map plain context.fields;
  this = context.this;
  task = Some (task_type context.result);
}

-- the type that a variable of a body is declared with
abbrev pub variable_type_tree : BodyContext → VariableTree → Option TypeTree
variable_type_tree context (AtSlot slot) = option_and_then (λ type. type) (slice_get context.slots slot)
variable_type_tree context (AtField field) = slice_get context.fields field
variable_type_tree context _ = None
