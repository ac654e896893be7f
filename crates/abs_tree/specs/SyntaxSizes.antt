-- The sizes of a source, counted in its tree.
--
--   `all_statements`                                   how many statements it has
--   `pattern_variables`, `expr_variables`, ..          how many variables are declared in a part of it
--   `body_sizes`                                       how many variables each of its bodies has, with its parameters
--   `class_sizes`                                      how many fields each of its classes has, with its parameters
use Rattle.std.specs.Prelude.{ℕ, ◌+◌, List, [], ◌∷◌, ◌++◌, length}
use Rattle.abs_tree.specs.Syntax.{PatternTree, Binds, Built, PatternTrees, NoPattern, NextPattern, ExprTree, LetIn, IfElse, OperatorsOf, Prefixed, OwnCallOf, ApplyOf, BuildOf, CaseOf, ExprTrees, NoExpr, NextExpr, Operands, NoOperands, NextOperand, Branches, NoBranch, NextBranch, SideTree, NewOf, ValueOf, SendOf, GetOf, CallOf, Tests, NoTest, NextTest, NoSide, SomeSide, Statement, BlockOf, AwaitOf, ReturnOf, PrintOf, IfOf, WhileOf, DeclareOf, AssignOf, DoOf, MaybeStatements, NoElse, Else, Statements, NoStatement, NextStatement, Value, MemberTree, FieldTree, MethodTree, DeclTree, FunctionTree, ClassTree, SourceTree}

-- the number of statements; a block counts as the statements in it
abbrev mutual
  pub statement_count : Statements → ℕ
  statement_count NoStatement = 0
  statement_count (NextStatement first others) = count_of first + statement_count others

  pub count_of : Statement → ℕ
  count_of (BlockOf _ block) = statement_count block
  count_of (IfOf _ _ _ first second) = 1 + statement_count first + count_of_else second
  count_of (WhileOf _ _ _ body) = 1 + statement_count body
  count_of _ = 1

  pub count_of_else : MaybeStatements → ℕ
  count_of_else NoElse = 0
  count_of_else (Else other) = statement_count other

-- the statements of the methods of a class, of a declaration, and of a source
abbrev pub member_statements : List MemberTree → ℕ
member_statements [] = 0
member_statements (MethodTree _ _ body ∷ others) = statement_count body + member_statements others
member_statements (FieldTree _ _ _ ∷ others) = member_statements others

abbrev pub decl_statements : List DeclTree → ℕ
decl_statements [] = 0
decl_statements (ClassTree _ _ _ _ members ∷ others) = member_statements members + decl_statements others
decl_statements (_ ∷ others) = decl_statements others

abbrev pub all_statements : SourceTree → ℕ
all_statements source = decl_statements source.declarations + statement_count source.main

-- the number of variables: those of patterns
abbrev mutual
  pub pattern_variables : PatternTree → ℕ
  pattern_variables (Binds _ _) = 1
  pattern_variables (Built _ _ parts) = patterns_variables parts
  pattern_variables _ = 0

  pub patterns_variables : PatternTrees → ℕ
  patterns_variables NoPattern = 0
  patterns_variables (NextPattern first others) = pattern_variables first + patterns_variables others

-- the number of variables of `let` and of the patterns in an expression
abbrev mutual
  pub expr_variables : ExprTree → ℕ
  expr_variables (LetIn _ _ _ _ value body) = 1 + expr_variables value + expr_variables body
  expr_variables (IfElse _ condition first second) =
      expr_variables condition + expr_variables first + expr_variables second
  expr_variables (OperatorsOf _ first operands) = expr_variables first + operand_variables operands
  expr_variables (Prefixed _ _ operand) = expr_variables operand
  expr_variables (OwnCallOf _ _ arguments) = exprs_variables arguments
  expr_variables (ApplyOf _ _ arguments) = exprs_variables arguments
  expr_variables (BuildOf _ _ arguments) = exprs_variables arguments
  expr_variables (CaseOf _ subject branches) = expr_variables subject + branch_variables branches
  expr_variables _ = 0

  pub exprs_variables : ExprTrees → ℕ
  exprs_variables NoExpr = 0
  exprs_variables (NextExpr first others) = expr_variables first + exprs_variables others

  pub operand_variables : Operands → ℕ
  operand_variables NoOperands = 0
  operand_variables (NextOperand _ right others) = expr_variables right + operand_variables others

  pub branch_variables : Branches → ℕ
  branch_variables NoBranch = 0
  branch_variables (NextBranch pattern value others) =
      pattern_variables pattern + expr_variables value + branch_variables others

abbrev pub side_variables : SideTree → ℕ
side_variables (NewOf _ _ _ _ arguments) = exprs_variables arguments
side_variables (ValueOf _ value) = expr_variables value
side_variables (SendOf _ _ operands) = exprs_variables operands
side_variables (GetOf _ _ future) = expr_variables future
side_variables (CallOf _ _ operands _) = exprs_variables operands

abbrev pub test_variables : Tests → ℕ
test_variables NoTest = 0
test_variables (NextTest _ value _ others) = expr_variables value + test_variables others

-- the number of variables of a statement, with the local that it declares
abbrev mutual
  pub statement_variables : Statement → ℕ
  statement_variables (BlockOf _ block) = statements_variables block
  statement_variables (AwaitOf _ _ guard) = test_variables guard
  statement_variables (ReturnOf _ _ value) = expr_variables value
  statement_variables (PrintOf _ _ value) = expr_variables value
  statement_variables (IfOf _ _ condition first NoElse) = expr_variables condition + statements_variables first
  statement_variables (IfOf _ _ condition first (Else second)) =
      expr_variables condition + statements_variables first + statements_variables second
  statement_variables (WhileOf _ _ condition body) = expr_variables condition + statements_variables body
  statement_variables (DeclareOf _ _ _ _ _ NoSide) = 1
  statement_variables (DeclareOf _ _ _ _ _ (SomeSide side)) = 1 + side_variables side
  statement_variables (AssignOf _ _ _ side) = side_variables side
  statement_variables (DoOf _ _ side) = side_variables side
  statement_variables _ = 0

  pub statements_variables : Statements → ℕ
  statements_variables NoStatement = 0
  statements_variables (NextStatement first others) = statement_variables first + statements_variables others

-- the number of variables of the initial values of a class, which are evaluated together
abbrev pub field_variables : List MemberTree → ℕ
field_variables [] = 0
field_variables (FieldTree _ _ (Value value) ∷ others) = expr_variables value + field_variables others
field_variables (_ ∷ others) = field_variables others

-- the sizes of bodies: those of the methods of a class
abbrev pub method_sizes : List MemberTree → List ℕ
method_sizes [] = []
method_sizes (MethodTree signature _ body ∷ others) =
    (length signature.params + statements_variables body) ∷ method_sizes others
method_sizes (FieldTree _ _ _ ∷ others) = method_sizes others

-- the sizes of the bodies of functions, and of classes with their initial values
abbrev pub decl_sizes : List DeclTree → List ℕ
decl_sizes [] = []
decl_sizes (FunctionTree _ _ _ _ params value ∷ others) = (length params + expr_variables value) ∷ decl_sizes others
decl_sizes (ClassTree _ _ _ _ members ∷ others) = field_variables members ∷ method_sizes members ++ decl_sizes others
decl_sizes (_ ∷ others) = decl_sizes others

-- and that of the main block, which comes first
abbrev pub body_sizes : SourceTree → List ℕ
body_sizes source = statements_variables source.main ∷ decl_sizes source.declarations

-- the number of fields: the parameters of a class, and the fields among its members
abbrev pub fields_among : List MemberTree → ℕ
fields_among [] = 0
fields_among (FieldTree _ _ _ ∷ others) = 1 + fields_among others
fields_among (MethodTree _ _ _ ∷ others) = fields_among others

abbrev pub decl_fields : List DeclTree → List ℕ
decl_fields [] = []
decl_fields (ClassTree _ _ params _ members ∷ others) = (length params + fields_among members) ∷ decl_fields others
decl_fields (_ ∷ others) = decl_fields others

abbrev pub class_sizes : SourceTree → List ℕ
class_sizes source = decl_fields source.declarations
