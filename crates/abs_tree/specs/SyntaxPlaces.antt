-- Where the parts of a tree begin: the place that each of them has.
--
--   `expr_place`, `side_place`                         expressions, right sides
--   `statement_place`, `decl_place`                    statements, declarations
use Rattle.abs_tree.specs.Syntax.{ExprTree, LetIn, IfElse, OperatorsOf, Prefixed, NumberOf, StringOf, NullOf, DestinyOf, ThisOf, FieldOf, OwnCallOf, VariableOf, ApplyOf, BuildOf, CaseOf, SideTree, NewOf, ValueOf, SendOf, GetOf, CallOf, Statement, BlockOf, SkipOf, SuspendOf, AwaitOf, ReturnOf, PrintOf, IfOf, WhileOf, DeclareOf, AssignOf, DoOf, DeclTree, DataTree, FunctionTree, InterfaceTree, ClassTree}
use Rattle.abs_tree.specs.declared.place.Place.{Place}

-- the place of an expression; parentheses around it make no node, so they do not count
abbrev pub expr_place : ExprTree → Place
expr_place (LetIn place type variable_place variable value body) = place
expr_place (IfElse place condition first second) = place
expr_place (OperatorsOf place first _) = place
expr_place (Prefixed place prefix operand) = place
expr_place (NumberOf place number) = place
expr_place (StringOf place text) = place
expr_place (NullOf place) = place
expr_place (DestinyOf place) = place
expr_place (ThisOf place) = place
expr_place (FieldOf place name_place name) = place
expr_place (OwnCallOf place method arguments) = place
expr_place (VariableOf place variable) = place
expr_place (ApplyOf place function arguments) = place
expr_place (BuildOf place constructor arguments) = place
expr_place (CaseOf place subject branches) = place

abbrev pub side_place : SideTree → Place
side_place (NewOf place mode class_place class arguments) = place
side_place (ValueOf place value) = place
side_place (SendOf place method operands) = place
side_place (GetOf place get_place future) = place
side_place (CallOf place method operands slot) = place

abbrev pub statement_place : Statement → Place
statement_place (BlockOf place block) = place
statement_place (SkipOf index place) = place
statement_place (SuspendOf index place) = place
statement_place (AwaitOf index place guard) = place
statement_place (ReturnOf index place value) = place
statement_place (PrintOf index place value) = place
statement_place (IfOf index place condition first second) = place
statement_place (WhileOf index place condition body) = place
statement_place (DeclareOf index place type variable_place variable initial) = place
statement_place (AssignOf index place target side) = place
statement_place (DoOf index place side) = place

abbrev pub decl_place : DeclTree → Place
decl_place (DataTree place name type_params constructors) = place
decl_place (FunctionTree place result name type_params params value) = place
decl_place (InterfaceTree place name extended signatures) = place
decl_place (ClassTree place name params implemented members) = place
