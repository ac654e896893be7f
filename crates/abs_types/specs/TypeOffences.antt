-- The offences of a program by its types.
--
--   `function_offences`            those of functions
--   `interface_offences`           those of interfaces
--   `class_offences`               those of classes: of interfaces that they do not meet, and of their members
--   `main_offences`                those of the main block
--   `type_offences`                all of them
use Rattle.std.specs.Prelude.{ℕ, ◌+◌, Bool, true, false, not, ◌||◌, List, [], ◌∷◌, ◌++◌, map, length, replicate, Some, None}
use Rattle.abs_program.specs.Slots.{body_slots, statements_slots}
use Rattle.abs_tree.specs.Syntax.{Name, MaybeExpr, NoValue, Value, SignatureTree, MemberTree, FieldTree, MethodTree, DeclTree, DataTree, FunctionTree, InterfaceTree, ClassTree, SourceTree, Statements}
use Rattle.abs_tree.specs.SyntaxPlaces.{expr_place}
use Rattle.abs_tree.specs.declared.place.Place.{Place}
use Rattle.abs_tree.specs.declared.refusal.Code.TheVariants.{T3, T4, T5}
use Rattle.abs_tree.specs.declared.refusal.Offence.{Offence}
use Rattle.abs_types.specs.Endings.{ends_with_return}
use Rattle.abs_types.specs.InterfacesMet.{agrees, meets_interfaces, same_type}
use Rattle.abs_tree.specs.Offences.{offence_if}
use Rattle.abs_types.specs.OperatorTypes.{unit_type}
use Rattle.abs_types.specs.PlainTypes.{PlainType, plain}
use Rattle.abs_types.specs.Schemes.{param_types}
use Rattle.abs_types.specs.StatementOffences.{asked_offences, can_be_null, statements_offences}
use Rattle.abs_types.specs.Typing.{Frame}

-- what is around the value of a function, or an initial value: variables with these types, and neither `this` nor a
-- task
abbrev pub value_frame : List PlainType → Frame
value_frame types = record { slots = map Some types; fields = []; this = None; task = None }

-- what is around the body of a method of a class that has fields of these types: its parameters are visible at first
abbrev pub method_frame : Name → List PlainType → SignatureTree → Statements → Frame
method_frame class fields signature body = record {
  slots = map Some (param_types signature.params) ++ replicate (length (statements_slots body)) None;
  fields = fields;
  this = Some class;
  task = Some (plain signature.result);
}

-- what is around the main block
abbrev pub main_frame : Statements → Frame
main_frame body = record {
  slots = replicate (length (body_slots 0 body)) None;
  fields = [];
  this = None;
  task = Some unit_type;
}

-- the offences of a function: its value fits its result type
abbrev pub function_offences_in : List DeclTree → DeclTree → List Offence
function_offences_in declarations (FunctionTree place result name type_params params value) =
    asked_offences declarations (value_frame (param_types params)) value (plain result) (expr_place value)
function_offences_in declarations (DataTree place name type_params constructors) = []
function_offences_in declarations (InterfaceTree place name extended signatures) = []
function_offences_in declarations (ClassTree place name params implemented members) = []

abbrev pub functions_offences : List DeclTree → List DeclTree → List Offence
functions_offences declarations [] = []
functions_offences declarations (first ∷ others) =
    function_offences_in declarations first ++ functions_offences declarations others

-- the offences of an interface with an index, at its name
abbrev pub interface_offences_in : List DeclTree → ℕ → DeclTree → List Offence
interface_offences_in declarations index (InterfaceTree place name extended signatures) =
    offence_if (not (agrees declarations index signatures)) T4 name.place
interface_offences_in declarations index (DataTree place name type_params constructors) = []
interface_offences_in declarations index (FunctionTree place result name type_params params value) = []
interface_offences_in declarations index (ClassTree place name params implemented members) = []

abbrev pub interfaces_offences : List DeclTree → ℕ → List DeclTree → List Offence
interfaces_offences declarations index [] = []
interfaces_offences declarations index (first ∷ others) =
    interface_offences_in declarations index first ++ interfaces_offences declarations (1 + index) others

-- the offences of a field, where variables with these types are visible: its value is to fit its type, or without a
-- value the type is to have `null`
abbrev pub field_offences : List DeclTree → List PlainType → PlainType → Place → MaybeExpr → List Offence
field_offences declarations types type place NoValue = offence_if (not (can_be_null type)) T3 place
field_offences declarations types type place (Value value) =
    asked_offences declarations (value_frame types) value type (expr_place value)

-- whether the body of a method with a result type ends as it is to: with `return`, unless the type is Unit
abbrev pub ends_well : PlainType → Statements → Bool
ends_well result body = same_type result unit_type || ends_with_return body

-- the offences of a method of a class that has fields of these types
abbrev pub method_offences : List DeclTree → Name → List PlainType → SignatureTree → Place → Statements → List Offence
method_offences declarations class fields signature end body =
    statements_offences declarations (method_frame class fields signature body) true body
    ++ offence_if (not (ends_well (plain signature.result) body)) T5 end

-- the types of the fields among members
abbrev pub field_types : List MemberTree → List PlainType
field_types [] = []
field_types (FieldTree type name initial ∷ others) = plain type ∷ field_types others
field_types (MethodTree signature end body ∷ others) = field_types others

-- the offences of the members of a class that has fields of these types; the parameters of the class and the fields
-- before a member have the types `known`
abbrev pub members_offences : List DeclTree → Name → List PlainType → List PlainType → List MemberTree → List Offence
members_offences declarations class fields known [] = []
members_offences declarations class fields known (FieldTree type name initial ∷ others) =
    field_offences declarations known (plain type) name.place initial
    ++ members_offences declarations class fields (known ++ plain type ∷ []) others
members_offences declarations class fields known (MethodTree signature end body ∷ others) =
    method_offences declarations class fields signature end body
    ++ members_offences declarations class fields known others

-- the offences of a class with an index: of an interface that it does not meet, at its name, and of its members
abbrev pub class_offences_in : List DeclTree → ℕ → DeclTree → List Offence
class_offences_in declarations index (ClassTree place name params implemented members) =
    offence_if (not (meets_interfaces declarations index members)) T4 name.place
    ++ members_offences declarations name.name (param_types params ++ field_types members) (param_types params) members
class_offences_in declarations index (DataTree place name type_params constructors) = []
class_offences_in declarations index (FunctionTree place result name type_params params value) = []
class_offences_in declarations index (InterfaceTree place name extended signatures) = []

abbrev pub classes_offences : List DeclTree → ℕ → List DeclTree → List Offence
classes_offences declarations index [] = []
classes_offences declarations index (first ∷ others) =
    class_offences_in declarations index first ++ classes_offences declarations (1 + index) others

-- the offences of all functions, interfaces and classes, and those of the main block, which has no `return`
unfoldable pub function_offences : List DeclTree → List Offence
function_offences declarations = functions_offences declarations declarations

unfoldable pub interface_offences : List DeclTree → List Offence
interface_offences declarations = interfaces_offences declarations 0 declarations

unfoldable pub class_offences : List DeclTree → List Offence
class_offences declarations = classes_offences declarations 0 declarations

unfoldable pub main_offences : SourceTree → List Offence
main_offences source = statements_offences source.declarations (main_frame source.main) false source.main

-- all offences of a program by its types
unfoldable pub type_offences : SourceTree → List Offence
type_offences source =
    function_offences source.declarations ++ interface_offences source.declarations
    ++ class_offences source.declarations ++ main_offences source
