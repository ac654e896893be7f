-- The types of right sides, and their offences. A call on `this` that is a whole right side has a type. A call asks
-- first for a method with its name and number of parameters (T2), and only then for its arguments (T1).
--
--   `class_takes`                  what a new object of a class takes
--   `future_type`                  the type of the value of a future, which a parameter or a local has
--   `side_type`                    the type of a right side
--   `side_offences`                its offences
use Rattle.std.specs.Prelude.{ℕ, Bool, true, false, List, [], ◌++◌, slice_get, Option, Some, None, is_some, is_none, option_map, option_and_then, if◌then◌else◌}
use Rattle.abs_program.specs.NameSpaces.{spaces_of}
use Rattle.abs_tree.specs.Syntax.{Name, AtSlot, DeclTree, DataTree, FunctionTree, InterfaceTree, ClassTree, ExprTree, OwnCallOf, VariableOf, ExprTrees, NoExpr, NextExpr, SideTree, NewOf, ValueOf, SendOf, GetOf, CallOf}
use Rattle.abs_tree.specs.SyntaxCounts.{count_exprs}
use Rattle.abs_program.specs.Tables.{meaning_of}
use Rattle.abs_program.specs.declared.name_spaces.Taking.{Taking}
use Rattle.abs_tree.specs.declared.place.Place.{Place}
use Rattle.abs_tree.specs.declared.refusal.Code.TheVariants.{T2}
use Rattle.abs_tree.specs.declared.refusal.Offence.{Offence}
use Rattle.abs_types.specs.Arguments.{all_fit}
use Rattle.abs_types.specs.ExpressionOffences.{lacks_method, this_lacks_method, expr_offences, exprs_offences}
use Rattle.abs_types.specs.Methods.{call_type, has_method}
use Rattle.abs_tree.specs.Offences.{offence_if}
use Rattle.abs_types.specs.Mistyped.{mistyped_if, untyped}
use Rattle.abs_types.specs.PlainTypes.{PlainType, PlainFut, PlainClass}
use Rattle.abs_types.specs.Schemes.{param_types}
use Rattle.abs_types.specs.Typing.{Frame, known_at, type_in, types_in}

-- what a class takes, by its declaration
abbrev pub taken_by : DeclTree → Option (List PlainType)
taken_by (ClassTree place name params implemented members) = Some (param_types params)
taken_by (DataTree place name type_params constructors) = None
taken_by (FunctionTree place result name type_params params value) = None
taken_by (InterfaceTree place name extended signatures) = None

-- what a new object of the class with a name takes
unfoldable pub class_takes : List DeclTree → Name → Option (List PlainType)
class_takes declarations class =
    option_and_then taken_by (option_and_then (λ (found : Taking). slice_get declarations found.declaration)
    (meaning_of (spaces_of declarations).classes class))

-- a new object of a class, if the arguments fit what the class takes
abbrev pub new_type : List DeclTree → Name → List PlainType → Option PlainType
new_type declarations class given =
    option_and_then (λ takes. if all_fit declarations given takes then Some (PlainClass class) else None)
    (class_takes declarations class)

-- the type of what a call gives, if its receiver and its arguments have types
abbrev pub called_type : List DeclTree → Option PlainType → Name → Option (List PlainType) → Option PlainType
called_type declarations (Some receiver) method (Some given) = call_type declarations receiver method given
called_type declarations _ method _ = None

-- the type of a call by its operands: its receiver, followed by its arguments
abbrev pub type_by_operands : List DeclTree → Frame → Name → ExprTrees → Option PlainType
type_by_operands declarations frame method NoExpr = None
type_by_operands declarations frame method (NextExpr receiver arguments) =
    called_type declarations (type_in declarations frame [] receiver) method (types_in declarations frame [] arguments)

-- the type of the value of a future
abbrev pub value_type : Option PlainType → Option PlainType
value_type (Some (PlainFut value)) = Some value
value_type _ = None

-- the type of the value of the future that an expression gives, which is to be a parameter or a local
abbrev pub future_type : Frame → ExprTree → Option PlainType
future_type frame (VariableOf place (AtSlot slot)) = value_type (known_at frame.slots slot)
future_type frame _ = None

-- the type of an expression that is a whole right side
abbrev pub whole_type : List DeclTree → Frame → ExprTree → Option PlainType
whole_type declarations frame (OwnCallOf place method arguments) =
    called_type declarations (option_map PlainClass frame.this) method (types_in declarations frame [] arguments)
whole_type declarations frame value = type_in declarations frame [] value

-- the type of a right side
abbrev pub side_type : List DeclTree → Frame → SideTree → Option PlainType
side_type declarations frame (NewOf place mode class_place class arguments) =
    option_and_then (new_type declarations class) (types_in declarations frame [] arguments)
side_type declarations frame (ValueOf place value) = whole_type declarations frame value
side_type declarations frame (SendOf place method operands) = option_map PlainFut (type_by_operands declarations frame method operands)
side_type declarations frame (CallOf place method operands slot) = type_by_operands declarations frame method operands
side_type declarations frame (GetOf place get_place future) = future_type frame future

-- whether an object has the method of a call, and the arguments have types
abbrev pub can_be_called : List DeclTree → Option PlainType → Name → ℕ → Option (List PlainType) → Bool
can_be_called declarations (Some receiver) method count (Some given) = has_method declarations receiver method count
can_be_called declarations _ method count _ = false

-- the offences of a call that is a whole right side, besides those of its parts: there is no such method, or else the
-- arguments do not fit
abbrev pub call_offences : List DeclTree → Option PlainType → Name → ℕ → Option (List PlainType) → Place → List Offence
call_offences declarations receiver method count given place =
    offence_if (lacks_method declarations receiver method count) T2 place
    ++ untyped (can_be_called declarations receiver method count given)
    (called_type declarations receiver method given) place

-- the offences of a call by its operands: its receiver, followed by its arguments
abbrev pub offences_by_operands : List DeclTree → Frame → Place → Name → ExprTrees → List Offence
offences_by_operands declarations frame place method NoExpr = mistyped_if true place
offences_by_operands declarations frame place method (NextExpr receiver arguments) =
    expr_offences declarations frame [] receiver ++ exprs_offences declarations frame [] arguments
    ++ call_offences declarations (type_in declarations frame [] receiver) method (count_exprs arguments)
    (types_in declarations frame [] arguments) place

-- the offences of an expression that is a whole right side; outside of a class there is no method of `this`
abbrev pub whole_offences : List DeclTree → Frame → ExprTree → List Offence
whole_offences declarations frame (OwnCallOf place method arguments) =
    exprs_offences declarations frame [] arguments
    ++ offence_if (this_lacks_method declarations frame method (count_exprs arguments)) T2 place
    ++ untyped (can_be_called declarations (option_map PlainClass frame.this) method (count_exprs arguments)
    (types_in declarations frame [] arguments))
    (whole_type declarations frame (OwnCallOf place method arguments)) place
whole_offences declarations frame value = expr_offences declarations frame [] value

-- the offences of a right side; the value of what is no future that a parameter or a local has offends by itself
abbrev pub side_offences : List DeclTree → Frame → SideTree → List Offence
side_offences declarations frame (NewOf place mode class_place class arguments) =
    exprs_offences declarations frame [] arguments
    ++ untyped (is_some (types_in declarations frame [] arguments))
    (side_type declarations frame (NewOf place mode class_place class arguments)) place
side_offences declarations frame (ValueOf place value) = whole_offences declarations frame value
side_offences declarations frame (SendOf place method operands) = offences_by_operands declarations frame place method operands
side_offences declarations frame (CallOf place method operands slot) = offences_by_operands declarations frame place method operands
side_offences declarations frame (GetOf place get_place future) =
    expr_offences declarations frame [] future ++ mistyped_if (is_none (future_type frame future)) place
