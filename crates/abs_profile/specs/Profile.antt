-- What the profile of the language refuses: a part of a guard without "?" (P1), a type in which `Fut` occurs of a
-- field, of a class parameter or of a constructor's argument (P2), `destiny` (P3), a call by "." on another receiver
-- than `this` (P4), and the word `local` (P5). Each of these gives all offences of a part of a source, whose names are
-- resolved.
--
--   `profile_offences`                                 a source
--   `decl_offences`, `constructor_offences`, `param_offences`     a declaration, a constructor, a class parameter
--   `member_offences`, `value_offences`                a member of a class, and the initial value of a field
--   `statement_offences`, `statements_offences`, `else_offences`     statements, and the second branch of an `if`
--   `initial_offences`, `side_offences`                the value of a declaration, and a right side
--   `receiver_offences`, `mode_offences`               the receiver of a call by ".", and where a new object lives
--   `guard_offences`, `test_offences`                  a guard, and a part of it
--   `expr_offences`, `exprs_offences`                  expressions
--   `operands_offences`, `branches_offences`           the right operands of operators, and the branches of a `case`
--   `future_offences`, `types_offences`                types in which `Fut` may not occur
--   `type_place`                                       where a type begins
--   `offences_at`                                      an offence with a code at a place that may be missing
use Rattle.std.specs.Prelude.{Bool, List, [], ◌∷◌, ◌++◌, Option, Some, None, if◌then◌else◌}
use Rattle.std.specs.List.{flat_map}
use Rattle.abs_tree.specs.Offences.{offence_at}
use Rattle.abs_tree.specs.Syntax.{TypeTree, UnresolvedType, IntType, StringType, FutType, DataType, InterfaceType, ParameterType, BottomType, NullType, ClassType, TypeTrees, NoType, NextType, ExprTree, LetIn, IfElse, OperatorsOf, Prefixed, NumberOf, StringOf, NullOf, DestinyOf, ThisOf, FieldOf, OwnCallOf, VariableOf, ApplyOf, BuildOf, CaseOf, ExprTrees, NoExpr, NextExpr, Operands, NoOperands, NextOperand, Branches, NoBranch, NextBranch, SideTree, NewOf, ValueOf, SendOf, GetOf, CallOf, Tests, NoTest, NextTest, MaybeSide, NoSide, SomeSide, Statement, BlockOf, SkipOf, SuspendOf, AwaitOf, ReturnOf, PrintOf, IfOf, WhileOf, DeclareOf, AssignOf, DoOf, MaybeStatements, NoElse, Else, Statements, NoStatement, NextStatement, ParamTree, ConstructorTree, MaybeExpr, NoValue, Value, MemberTree, FieldTree, MethodTree, DeclTree, DataTree, FunctionTree, InterfaceTree, ClassTree, SourceTree}
use Rattle.abs_tree.specs.declared.place.Place.{Place}
use Rattle.abs_tree.specs.declared.refusal.Code.{Code}
use Rattle.abs_tree.specs.declared.refusal.Code.TheVariants as code
use Rattle.abs_tree.specs.declared.refusal.Offence.{Offence}
use Rattle.abs_tree.specs.declared.syntax.statement.Mode.{Mode}
use Rattle.abs_tree.specs.declared.syntax.statement.Mode.TheVariants as mode
use Rattle.abs_types.specs.Holds.{holds_futures_in}

-- the offence with this code at a place that may be missing: where there is none, nothing offends
abbrev pub offences_at : Code → Option Place → List Offence
offences_at code None = []
offences_at code (Some place) = offence_at code place

-- where a type begins; types that no source writes have no place
abbrev pub type_place : TypeTree → Option Place
type_place (UnresolvedType place name arguments) = Some place
type_place (IntType place) = Some place
type_place (StringType place) = Some place
type_place (FutType place value) = Some place
type_place (DataType place name arguments) = Some place
type_place (InterfaceType place name) = Some place
type_place (ParameterType place parameter) = Some place
type_place BottomType = None
type_place NullType = None
type_place (ClassType name) = None

-- the type of a field, of a class parameter or of a constructor's argument: `Fut` may not occur in it
abbrev pub future_offences : TypeTree → List Offence
future_offences type = if holds_futures_in type then offences_at code.P2 (type_place type) else []

abbrev pub types_offences : TypeTrees → List Offence
types_offences NoType = []
types_offences (NextType first others) = future_offences first ++ types_offences others

abbrev mutual
  -- an expression: `destiny` offends
  pub expr_offences : ExprTree → List Offence
  expr_offences (DestinyOf place) = offence_at code.P3 place
  expr_offences (LetIn place type variable_place variable value body) = expr_offences value ++ expr_offences body
  expr_offences (IfElse place condition first second) =
      expr_offences condition ++ (expr_offences first ++ expr_offences second)
  expr_offences (OperatorsOf place first operands) = expr_offences first ++ operands_offences operands
  expr_offences (Prefixed place prefix operand) = expr_offences operand
  expr_offences (OwnCallOf place method arguments) = exprs_offences arguments
  expr_offences (ApplyOf place function arguments) = exprs_offences arguments
  expr_offences (BuildOf place constructor arguments) = exprs_offences arguments
  expr_offences (CaseOf place subject branches) = expr_offences subject ++ branches_offences branches
  expr_offences (NumberOf place number) = []
  expr_offences (StringOf place string) = []
  expr_offences (NullOf place) = []
  expr_offences (ThisOf place) = []
  expr_offences (FieldOf place name_place name) = []
  expr_offences (VariableOf place variable) = []

  pub exprs_offences : ExprTrees → List Offence
  exprs_offences NoExpr = []
  exprs_offences (NextExpr first others) = expr_offences first ++ exprs_offences others

  pub operands_offences : Operands → List Offence
  operands_offences NoOperands = []
  operands_offences (NextOperand operator right others) = expr_offences right ++ operands_offences others

  pub branches_offences : Branches → List Offence
  branches_offences NoBranch = []
  branches_offences (NextBranch pattern value others) = expr_offences value ++ branches_offences others

-- a part of a guard: without "?" it offends, and what stands in it is looked at too
abbrev pub test_offences : Place → ExprTree → Bool → List Offence
test_offences place value asks = (if asks then [] else offence_at code.P1 place) ++ expr_offences value

abbrev pub guard_offences : Tests → List Offence
guard_offences NoTest = []
guard_offences (NextTest place value asks others) = test_offences place value asks ++ guard_offences others

-- `local` offends where it stands
abbrev pub mode_offences : Mode → List Offence
mode_offences mode.Plain = []
mode_offences mode.Cog = []
mode_offences (mode.Local place) = offence_at code.P5 place

-- a call by "." that begins here, with its receiver before its arguments: another receiver than `this` offends
abbrev pub receiver_offences : Place → ExprTrees → List Offence
receiver_offences place (NextExpr (ThisOf at) arguments) = []
receiver_offences place operands = offence_at code.P4 place

abbrev pub side_offences : SideTree → List Offence
side_offences (NewOf place mode class_place class arguments) = mode_offences mode ++ exprs_offences arguments
side_offences (ValueOf place value) = expr_offences value
side_offences (SendOf place method operands) = exprs_offences operands
side_offences (GetOf place get_place future) = expr_offences future
side_offences (CallOf place method operands slot) = receiver_offences place operands ++ exprs_offences operands

abbrev pub initial_offences : MaybeSide → List Offence
initial_offences NoSide = []
initial_offences (SomeSide side) = side_offences side

abbrev mutual
  pub statement_offences : Statement → List Offence
  statement_offences (BlockOf place block) = statements_offences block
  statement_offences (SkipOf index place) = []
  statement_offences (SuspendOf index place) = []
  statement_offences (AwaitOf index place guard) = guard_offences guard
  statement_offences (ReturnOf index place value) = expr_offences value
  statement_offences (PrintOf index place value) = expr_offences value
  statement_offences (IfOf index place condition first second) =
      expr_offences condition ++ (statements_offences first ++ else_offences second)
  statement_offences (WhileOf index place condition body) = expr_offences condition ++ statements_offences body
  statement_offences (DeclareOf index place type variable_place variable initial) = initial_offences initial
  statement_offences (AssignOf index place target side) = side_offences side
  statement_offences (DoOf index place side) = side_offences side

  pub statements_offences : Statements → List Offence
  statements_offences NoStatement = []
  statements_offences (NextStatement first others) = statement_offences first ++ statements_offences others

  pub else_offences : MaybeStatements → List Offence
  else_offences NoElse = []
  else_offences (Else branch) = statements_offences branch

abbrev pub constructor_offences : ConstructorTree → List Offence
constructor_offences constructor = types_offences constructor.types

abbrev pub param_offences : ParamTree → List Offence
param_offences param = future_offences param.type_of

abbrev pub value_offences : MaybeExpr → List Offence
value_offences NoValue = []
value_offences (Value value) = expr_offences value

abbrev pub member_offences : MemberTree → List Offence
member_offences (FieldTree type name initial) = future_offences type ++ value_offences initial
member_offences (MethodTree signature end body) = statements_offences body

abbrev pub decl_offences : DeclTree → List Offence
decl_offences (DataTree place name type_params constructors) = flat_map constructor_offences constructors
decl_offences (FunctionTree place result name type_params params value) = expr_offences value
decl_offences (InterfaceTree place name extended signatures) = []
decl_offences (ClassTree place name params implemented members) =
    flat_map param_offences params ++ flat_map member_offences members

-- a source
abbrev pub profile_offences : SourceTree → List Offence
profile_offences source = flat_map decl_offences source.declarations ++ statements_offences source.main
