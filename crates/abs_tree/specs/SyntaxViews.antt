-- The code's trees without their memory: the same trees with the name of each symbol written out.
--
--   `type_tree`, `pattern_tree`, `expr_tree`           types, patterns, expressions
--   `side_tree`, `tests`, `statement`                  right sides, guards, statements
--   `member_tree`, `decl_tree`, `tree_of_parts`        members, declarations, a source from its parts
--   `.._row`                                           the children of a tree
--   `type_trees`, `expr_trees`, `operand_trees`, ..    a list of trees by itself
use Rattle.std.specs.Prelude.{List, [], ◌∷◌, map, Option, Some, None}
use Rattle.std.specs.declared.alloc.Global.{Global}
use Rattle.std.specs.declared.sync.Arc.{Arc}
use Rattle.std.specs.declared.vec.Vec.{Vec}
use Rattle.abs_tree.specs.Syntax.{Name, VariableTree, Unresolved, AtSlot, AtBound, AtField, TypeTree, UnresolvedType, IntType, StringType, FutType, DataType, InterfaceType, ParameterType, BottomType, NullType, ClassType, TypeTrees, NoType, NextType, PatternTree, AnyValue, Binds, SameNumber, SameString, Built, PatternTrees, NoPattern, NextPattern, ExprTree, LetIn, IfElse, OperatorsOf, Prefixed, NumberOf, StringOf, NullOf, DestinyOf, ThisOf, FieldOf, OwnCallOf, VariableOf, ApplyOf, BuildOf, CaseOf, ExprTrees, NoExpr, NextExpr, Operands, NoOperands, NextOperand, Branches, NoBranch, NextBranch, SideTree, NewOf, ValueOf, SendOf, GetOf, CallOf, Tests, NoTest, NextTest, TargetTree, ToVariable, ToField, MaybeSide, NoSide, SomeSide, Statement, BlockOf, SkipOf, SuspendOf, AwaitOf, ReturnOf, PrintOf, IfOf, WhileOf, DeclareOf, AssignOf, DoOf, MaybeStatements, NoElse, Else, Statements, NoStatement, NextStatement, ParamTree, DeclaredTree, ConstructorTree, SignatureTree, MaybeExpr, NoValue, Value, MemberTree, FieldTree, MethodTree, DeclTree, DataTree, FunctionTree, InterfaceTree, ClassTree, SourceTree}
use Rattle.abs_tree.specs.Names.{name_of}
use Rattle.abs_tree.specs.declared.syntax.variable.Variable.{Variable}
use Rattle.abs_tree.specs.declared.syntax.variable.Variable.TheVariants as variable
use Rattle.abs_tree.specs.declared.syntax.types.TypeTerm as code_type
use Rattle.abs_tree.specs.declared.syntax.pattern.Pattern as code_pattern
use Rattle.abs_tree.specs.declared.syntax.expression.Expr as code_expr
use Rattle.abs_tree.specs.declared.syntax.expression.Operand as code_operand
use Rattle.abs_tree.specs.declared.syntax.expression.Branch as code_branch
use Rattle.abs_tree.specs.declared.syntax.statement.RightSide as code_side
use Rattle.abs_tree.specs.declared.syntax.statement.RightSide.TheVariants as side
use Rattle.abs_tree.specs.declared.syntax.statement.Target as code_target
use Rattle.abs_tree.specs.declared.syntax.statement.Target.TheVariants as target
use Rattle.abs_tree.specs.declared.syntax.statement.Test as code_test
use Rattle.abs_tree.specs.declared.syntax.statement.Stmt as code_stmt
use Rattle.abs_tree.specs.declared.syntax.declaration.Declared as code_declared
use Rattle.abs_tree.specs.declared.syntax.declaration.Param as code_param
use Rattle.abs_tree.specs.declared.syntax.declaration.Constructor as code_constructor
use Rattle.abs_tree.specs.declared.syntax.declaration.Signature as code_signature
use Rattle.abs_tree.specs.declared.syntax.declaration.Member as code_member
use Rattle.abs_tree.specs.declared.syntax.declaration.Member.TheVariants as member
use Rattle.abs_tree.specs.declared.syntax.declaration.Decl as code_decl
use Rattle.abs_tree.specs.declared.syntax.declaration.Decl.TheVariants as decl
use Rattle.abs_tree.specs.declared.syntax.declaration.Body as code_body

-- the tree of a variable
abbrev pub variable_tree : List Name → Variable → VariableTree
variable_tree names (variable.Unresolved symbol) = Unresolved (name_of names symbol)
variable_tree names (variable.Slot slot) = AtSlot slot
variable_tree names (variable.Bound depth) = AtBound depth
variable_tree names (variable.Field field) = AtField field

abbrev mutual
  -- the tree of a type
  pub type_tree : List Name → code_type.TypeTerm → TypeTree
  type_tree names (code_type.Unresolved' place symbol shape arguments) =
      UnresolvedType place (name_of names symbol) (type_row names arguments)
  type_tree names (code_type.Int place) = IntType place
  type_tree names (code_type.String place) = StringType place
  type_tree names (code_type.Fut' place at value) = FutType place (type_tree names value)
  type_tree names (code_type.Data' place symbol shape arguments) =
      DataType place (name_of names symbol) (type_row names arguments)
  type_tree names (code_type.Interface place symbol) = InterfaceType place (name_of names symbol)
  type_tree names (code_type.Parameter place parameter) = ParameterType place parameter
  type_tree names code_type.Bottom = BottomType
  type_tree names code_type.Null = NullType
  type_tree names (code_type.Class symbol) = ClassType (name_of names symbol)

  pub type_row : {n : _} → List Name → code_type.Row_of-TypeTerm n → TypeTrees
  type_row names code_type.end_of-TypeTerm = NoType
  type_row names (code_type.more_of-TypeTerm type others) = NextType (type_tree names type) (type_row names others)

-- the trees of a list of types
abbrev pub type_trees : List Name → List code_type.TypeTerm → TypeTrees
type_trees names [] = NoType
type_trees names (type ∷ others) = NextType (type_tree names type) (type_trees names others)

abbrev mutual
  -- the tree of a pattern
  pub pattern_tree : List Name → code_pattern.Pattern → PatternTree
  pattern_tree names (code_pattern.Any place) = AnyValue place
  pattern_tree names (code_pattern.Binds place variable) = Binds place (variable_tree names variable)
  pattern_tree names (code_pattern.Number place number) = SameNumber place number
  pattern_tree names (code_pattern.Text place text) = SameString place text
  pattern_tree names (code_pattern.Built' place symbol shape arguments) =
      Built place (name_of names symbol) (pattern_row names arguments)

  pub pattern_row : {n : _} → List Name → code_pattern.Row_of-Pattern n → PatternTrees
  pattern_row names code_pattern.end_of-Pattern = NoPattern
  pattern_row names (code_pattern.more_of-Pattern pattern others) =
      NextPattern (pattern_tree names pattern) (pattern_row names others)

-- the trees of a list of patterns
abbrev pub pattern_trees : List Name → List code_pattern.Pattern → PatternTrees
pattern_trees names [] = NoPattern
pattern_trees names (pattern ∷ others) = NextPattern (pattern_tree names pattern) (pattern_trees names others)

abbrev mutual
  -- the tree of an expression
  pub expr_tree : List Name → code_expr.Expr → ExprTree
  expr_tree names (code_expr.Let' place type variable_place variable at_value value at_body body) =
      LetIn place (type_tree names type.value) variable_place (variable_tree names variable) (expr_tree names value)
      (expr_tree names body)
  expr_tree names (code_expr.If' place at_condition condition at_first first at_second second) =
      IfElse place (expr_tree names condition) (expr_tree names first) (expr_tree names second)
  expr_tree names (code_expr.Operators' place at_first first shape operands) =
      OperatorsOf place (expr_tree names first) (operand_row names operands)
  expr_tree names (code_expr.Prefixed' place prefix at_operand operand) = Prefixed place prefix (expr_tree names operand)
  expr_tree names (code_expr.Number place number) = NumberOf place number
  expr_tree names (code_expr.Text place text) = StringOf place text
  expr_tree names (code_expr.Null place) = NullOf place
  expr_tree names (code_expr.Destiny place) = DestinyOf place
  expr_tree names (code_expr.This place) = ThisOf place
  expr_tree names (code_expr.Field place name_place symbol) = FieldOf place name_place (name_of names symbol)
  expr_tree names (code_expr.OwnCall' place symbol shared shape arguments) =
      OwnCallOf place (name_of names symbol) (expr_row names arguments)
  expr_tree names (code_expr.Variable place variable) = VariableOf place (variable_tree names variable)
  expr_tree names (code_expr.Apply' place symbol shape arguments) =
      ApplyOf place (name_of names symbol) (expr_row names arguments)
  expr_tree names (code_expr.Build' place symbol shape arguments) =
      BuildOf place (name_of names symbol) (expr_row names arguments)
  expr_tree names (code_expr.Case' place at_subject subject shape branches) =
      CaseOf place (expr_tree names subject) (branch_row names branches)

  pub expr_row : {n : _} → List Name → code_expr.Row_of-Expr n → ExprTrees
  expr_row names code_expr.end_of-Expr = NoExpr
  expr_row names (code_expr.more_of-Expr expr others) = NextExpr (expr_tree names expr) (expr_row names others)

  pub operand_row : {n : _} → List Name → code_expr.Row_of-Operand n → Operands
  operand_row names code_expr.end_of-Operand = NoOperands
  operand_row names (code_expr.more_of-Operand operator right others) =
      NextOperand operator (expr_tree names right) (operand_row names others)

  pub branch_row : {n : _} → List Name → code_expr.Row_of-Branch n → Branches
  branch_row names code_expr.end_of-Branch = NoBranch
  branch_row names (code_expr.more_of-Branch pattern value others) =
      NextBranch (pattern_tree names pattern) (expr_tree names value) (branch_row names others)

-- the trees of a list of expressions
abbrev pub expr_trees : List Name → List code_expr.Expr → ExprTrees
expr_trees names [] = NoExpr
expr_trees names (expr ∷ others) = NextExpr (expr_tree names expr) (expr_trees names others)

-- the trees of a list of operators with their right operands, and of a list of branches
abbrev pub operand_trees : List Name → List code_operand.Operand → Operands
operand_trees names [] = NoOperands
operand_trees names (operand ∷ others) =
    NextOperand operand.operator (expr_tree names operand.right) (operand_trees names others)

abbrev pub branches : List Name → List code_branch.Branch → Branches
branches names [] = NoBranch
branches names (branch ∷ others) =
    NextBranch (pattern_tree names branch.pattern) (expr_tree names branch.value) (branches names others)

-- the tree of a right side
abbrev pub side_tree : List Name → code_side.RightSide → SideTree
side_tree names (side.New place mode class_place class arguments) =
    NewOf place mode class_place (name_of names class) (expr_trees names arguments.value.items)
side_tree names (side.Value place value) = ValueOf place (expr_tree names value.value)
side_tree names (side.Send place method operands) = SendOf place (name_of names method) (expr_trees names operands.value.items)
side_tree names (side.Get place get_place future) = GetOf place get_place (expr_tree names future.value)
side_tree names (side.Call place method operands slot) =
    CallOf place (name_of names method) (expr_trees names operands.value.items) slot

abbrev pub maybe_side : List Name → Option code_side.RightSide → MaybeSide
maybe_side names None = NoSide
maybe_side names (Some rhs) = SomeSide (side_tree names rhs)

-- the tree of a guard
abbrev pub tests : List Name → List code_test.Test → Tests
tests names [] = NoTest
tests names (test ∷ others) = NextTest test.place (expr_tree names test.value.value) test.asks (tests names others)

abbrev pub target_tree : List Name → code_target.Target → TargetTree
target_tree names (target.Variable place variable) = ToVariable place (variable_tree names variable)
target_tree names (target.Field place name_place symbol) = ToField place name_place (name_of names symbol)

abbrev mutual
  -- the tree of a statement
  pub statement : List Name → code_stmt.Stmt → Statement
  statement names (code_stmt.Block' place shape block) = BlockOf place (statement_row names block)
  statement names (code_stmt.Skip index place) = SkipOf index place
  statement names (code_stmt.Suspend index place) = SuspendOf index place
  statement names (code_stmt.Await index place guard) = AwaitOf index place (tests names guard.items)
  statement names (code_stmt.Return index place value) = ReturnOf index place (expr_tree names value.value)
  statement names (code_stmt.Print index place value) = PrintOf index place (expr_tree names value.value)
  statement names (code_stmt.If' index place condition shape first second) =
      IfOf index place (expr_tree names condition.value) (statement_row names first) (else_held names second)
  statement names (code_stmt.While' index place condition shape body) =
      WhileOf index place (expr_tree names condition.value) (statement_row names body)
  statement names (code_stmt.Declare index place type variable_place variable initial) =
      DeclareOf index place (type_tree names type) variable_place (variable_tree names variable)
      (maybe_side names initial)
  statement names (code_stmt.Assign index place target rhs) =
      AssignOf index place (target_tree names target) (side_tree names rhs)
  statement names (code_stmt.Do index place rhs) = DoOf index place (side_tree names rhs)

  pub statement_row : {n : _} → List Name → code_stmt.Row_of-Stmt n → Statements
  statement_row names code_stmt.end_of-Stmt = NoStatement
  statement_row names (code_stmt.more_of-Stmt stmt others) =
      NextStatement (statement names stmt) (statement_row names others)

  pub else_held : List Name → code_stmt.Held-Stmt-If-4 → MaybeStatements
  else_held names code_stmt.None' = NoElse
  else_held names (code_stmt.Some' shape other) = Else (statement_row names other)

-- the trees of a list of statements
abbrev pub statements : List Name → List code_stmt.Stmt → Statements
statements names [] = NoStatement
statements names (stmt ∷ others) = NextStatement (statement names stmt) (statements names others)

-- the trees of a branch that may be missing
abbrev pub maybe_statements : List Name → Option (Vec code_stmt.Stmt Global) → MaybeStatements
maybe_statements names None = NoElse
maybe_statements names (Some branch) = Else (statements names branch.items)

-- the trees of a declaration and of its parts
abbrev pub declared : List Name → code_declared.Declared → DeclaredTree
declared names item = record { place = item.place; name = name_of names item.name }

abbrev pub param_tree : List Name → code_param.Param → ParamTree
param_tree names param = record {
  type_of = type_tree names param.type_of;
  place = param.place;
  variable =
      variable_tree names param.variable;
}

abbrev pub constructor_tree : List Name → code_constructor.Constructor → ConstructorTree
constructor_tree names constructor =
    record { name = declared names constructor.name; types = type_trees names constructor.types.items }

abbrev pub signature_tree : List Name → code_signature.Signature → SignatureTree
signature_tree names signature = record {
  result = type_tree names signature.result;
  name = declared names signature.name;
  params = map (param_tree names) signature.params.items;
}

abbrev pub maybe_expr : List Name → Option (Arc code_expr.Expr Global) → MaybeExpr
maybe_expr names None = NoValue
maybe_expr names (Some value) = Value (expr_tree names value.value)

abbrev pub member_tree : List Name → code_member.Member → MemberTree
member_tree names (member.Field type name initial) =
    FieldTree (type_tree names type) (declared names name) (maybe_expr names initial)
member_tree names (member.Method signature body) =
    MethodTree (signature_tree names signature) body.end (statements names body.statements.items)

abbrev pub decl_tree : List Name → code_decl.Decl → DeclTree
decl_tree names (decl.Data place name parameters constructors) =
    DataTree place (declared names name) (map (declared names) parameters.items)
    (map (constructor_tree names) constructors.items)
decl_tree names (decl.Function place result name parameters params value) =
    FunctionTree place (type_tree names result) (declared names name) (map (declared names) parameters.items)
    (map (param_tree names) params.items) (expr_tree names value.value)
decl_tree names (decl.Interface place name extended signatures) =
    InterfaceTree place (declared names name) (map (declared names) extended.items)
    (map (signature_tree names) signatures.items)
decl_tree names (decl.Class place name params implemented members) =
    ClassTree place (declared names name) (map (param_tree names) params.items) (map (declared names) implemented.items)
    (map (member_tree names) members.items)

-- the tree of a source, from its names, its declarations and its main block
abbrev pub tree_of_parts : List Name → List code_decl.Decl → code_body.Body → SourceTree
tree_of_parts names declarations main = record {
  declarations = map (decl_tree names) declarations;
  main = statements names main.statements.items;
  end = main.end;
}
