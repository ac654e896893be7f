-- The tree of a source without its memory, for every nonterminal of the grammar: one constructor for each alternative
-- of its rule. A constructor has the place of the first token, and in order a field for each name, literal, operator
-- and part. If a later name or keyword can offend, the constructor has that place too. Names are written out. Operators
-- of one precedence make one node, so a long sum is not deeply nested. Parentheses, and a rule with one operand, make
-- no node.
--
--   `VariableTree`                                     variables
--   `TypeTree`, `PatternTree`                          types, patterns
--   `ExprTree`, `Operands`, `Branches`                 expressions, operators of one precedence, branches of a `case`
--   `SideTree`, `Tests`, `TargetTree`                  right sides, guards, where a value goes
--   `Statement`                                        statements
--   `MemberTree`, `DeclTree`, `SourceTree`             members, declarations, a source
--   `ProgramTree`                                      a resolved source with its names
use Rattle.std.specs.Prelude.{ℕ, ℤ, Bool, List, Option}
use Rattle.abs_tree.specs.declared.place.Place.{Place}
use Rattle.abs_tree.specs.declared.syntax.expression.Operator.{Operator}
use Rattle.abs_tree.specs.declared.syntax.expression.Prefix.{Prefix}
use Rattle.abs_tree.specs.declared.syntax.statement.Mode.{Mode}

-- a name as it is written
abbrev pub Name : Type 0
Name = List ℕ

-- a variable. Unresolved it is its name. Resolved it is a slot of its body, a variable of a pattern or of `let`, or a
-- field of the own object. A variable of a pattern or of `let` is given by how many of these are visible where it is
-- bound
pub data VariableTree : Type 0 where
  Unresolved : (name : Name) → VariableTree
  AtSlot : (slot : ℕ) → VariableTree
  AtBound : (depth : ℕ) → VariableTree
  AtField : (field : ℕ) → VariableTree

-- a type. Unresolved it is its name with its arguments. Resolved it is a built-in type, `Fut` of a type, data, an
-- interface, or a type parameter by its index. The last three are types that no source writes: of no value, of `null`,
-- and of an object of a class
mutual
  pub data TypeTree : Type 0 where
    UnresolvedType : (place : Place) (name : Name) (arguments : TypeTrees) → TypeTree
    IntType : (place : Place) → TypeTree
    StringType : (place : Place) → TypeTree
    FutType : (place : Place) (value : TypeTree) → TypeTree
    DataType : (place : Place) (name : Name) (arguments : TypeTrees) → TypeTree
    InterfaceType : (place : Place) (name : Name) → TypeTree
    ParameterType : (place : Place) (parameter : ℕ) → TypeTree
    BottomType : TypeTree
    NullType : TypeTree
    ClassType : (name : Name) → TypeTree
    deriving IsSet as TypeTree-set

  pub data TypeTrees : Type 0 where
    NoType : TypeTrees
    NextType : (first : TypeTree) (others : TypeTrees) → TypeTrees

-- a pattern: any value, a variable, a number, a string, or a constructor with its patterns
mutual
  pub data PatternTree : Type 0 where
    AnyValue : (place : Place) → PatternTree
    Binds : (place : Place) (variable : VariableTree) → PatternTree
    SameNumber : (place : Place) (number : ℤ) → PatternTree
    SameString : (place : Place) (string : List ℕ) → PatternTree
    Built : (place : Place) (constructor : Name) (arguments : PatternTrees) → PatternTree
    deriving IsSet as PatternTree-set

  pub data PatternTrees : Type 0 where
    NoPattern : PatternTrees
    NextPattern : (first : PatternTree) (others : PatternTrees) → PatternTrees

mutual
  -- an expression
  pub data ExprTree : Type 0 where
    LetIn : (place : Place) (type : TypeTree) (variable_place : Place) (variable : VariableTree) (value body : ExprTree)
        → ExprTree
    IfElse : (place : Place) (condition first second : ExprTree) → ExprTree
    OperatorsOf : (place : Place) (first : ExprTree) (operands : Operands) → ExprTree
    Prefixed : (place : Place) (prefix : Prefix) (operand : ExprTree) → ExprTree
    NumberOf : (place : Place) (number : ℤ) → ExprTree
    StringOf : (place : Place) (string : List ℕ) → ExprTree
    NullOf : (place : Place) → ExprTree
    DestinyOf : (place : Place) → ExprTree
    ThisOf : (place : Place) → ExprTree
    FieldOf : (place name_place : Place) (name : Name) → ExprTree
    OwnCallOf : (place : Place) (method : Name) (arguments : ExprTrees) → ExprTree
    VariableOf : (place : Place) (variable : VariableTree) → ExprTree
    ApplyOf : (place : Place) (function : Name) (arguments : ExprTrees) → ExprTree
    BuildOf : (place : Place) (constructor : Name) (arguments : ExprTrees) → ExprTree
    CaseOf : (place : Place) (subject : ExprTree) (branches : Branches) → ExprTree

  pub data ExprTrees : Type 0 where
    NoExpr : ExprTrees
    NextExpr : (first : ExprTree) (others : ExprTrees) → ExprTrees
    deriving IsSet as ExprTrees-set

  -- operators of one precedence, each with its right operand
  pub data Operands : Type 0 where
    NoOperands : Operands
    NextOperand : (operator : Operator) (right : ExprTree) (others : Operands) → Operands

  pub data Branches : Type 0 where
    NoBranch : Branches
    NextBranch : (pattern : PatternTree) (value : ExprTree) (others : Branches) → Branches

-- the right side of "=", which may also be a statement: a new object, an expression, a call by "!" or by ".", or the
-- value of a future. The operands of a call are its receiver, followed by its arguments. Once names are resolved, a
-- call by "." has the hidden slot of its result.
pub data SideTree : Type 0 where
  NewOf : (place : Place) (mode : Mode) (class_place : Place) (class : Name) (arguments : ExprTrees) → SideTree
  ValueOf : (place : Place) (value : ExprTree) → SideTree
  SendOf : (place : Place) (method : Name) (operands : ExprTrees) → SideTree
  GetOf : (place get_place : Place) (future : ExprTree) → SideTree
  CallOf : (place : Place) (method : Name) (operands : ExprTrees) (slot : Option ℕ) → SideTree

-- a part of a guard, and whether a "?" follows it
pub data Tests : Type 0 where
  NoTest : Tests
  NextTest : (place : Place) (value : ExprTree) (asks : Bool) (others : Tests) → Tests

-- where a value goes: a variable, or a field of "this"
pub data TargetTree : Type 0 where
  ToVariable : (place : Place) (variable : VariableTree) → TargetTree
  ToField : (place name_place : Place) (name : Name) → TargetTree

pub data MaybeSide : Type 0 where
  NoSide : MaybeSide
  SomeSide : (side : SideTree) → MaybeSide

mutual
  -- a statement; all but a block have an index. A branch is a list of statements.
  pub data Statement : Type 0 where
    BlockOf : (place : Place) (block : Statements) → Statement
    SkipOf : (index : ℕ) (place : Place) → Statement
    SuspendOf : (index : ℕ) (place : Place) → Statement
    AwaitOf : (index : ℕ) (place : Place) (guard : Tests) → Statement
    ReturnOf : (index : ℕ) (place : Place) (value : ExprTree) → Statement
    PrintOf : (index : ℕ) (place : Place) (value : ExprTree) → Statement
    IfOf : (index : ℕ) (place : Place) (condition : ExprTree) (first : Statements) (second : MaybeStatements) → Statement
    WhileOf : (index : ℕ) (place : Place) (condition : ExprTree) (body : Statements) → Statement
    DeclareOf : (index : ℕ) (place : Place) (type : TypeTree) (variable_place : Place) (variable : VariableTree)
        (initial : MaybeSide) → Statement
    AssignOf : (index : ℕ) (place : Place) (target : TargetTree) (side : SideTree) → Statement
    DoOf : (index : ℕ) (place : Place) (side : SideTree) → Statement

  pub data MaybeStatements : Type 0 where
    NoElse : MaybeStatements
    Else : (branch : Statements) → MaybeStatements

  pub data Statements : Type 0 where
    NoStatement : Statements
    NextStatement : (first : Statement) (others : Statements) → Statements

-- a parameter: its type, the place of its name, and the variable
pub record ParamTree : Type 0 where
  pub type_of : TypeTree
  pub place : Place
  pub variable : VariableTree

-- a name where it is declared
pub record DeclaredTree : Type 0 where
  pub place : Place
  pub name : Name

-- a constructor of data with the types of its arguments; a method of an interface; a field or a method of a class
pub record ConstructorTree : Type 0 where
  pub name : DeclaredTree
  pub types : TypeTrees

pub record SignatureTree : Type 0 where
  pub result : TypeTree
  pub name : DeclaredTree
  pub params : List ParamTree

pub data MaybeExpr : Type 0 where
  NoValue : MaybeExpr
  Value : ExprTree → MaybeExpr

pub data MemberTree : Type 0 where
  FieldTree : (type : TypeTree) (name : DeclaredTree) (initial : MaybeExpr) → MemberTree
  MethodTree : (signature : SignatureTree) (end : Place) (body : Statements) → MemberTree

-- a declaration
pub data DeclTree : Type 0 where
  DataTree : (place : Place) (name : DeclaredTree) (type_params : List DeclaredTree)
      (constructors : List ConstructorTree) → DeclTree
  FunctionTree : (place : Place) (result : TypeTree) (name : DeclaredTree) (type_params : List DeclaredTree)
      (params : List ParamTree) (value : ExprTree) → DeclTree
  InterfaceTree : (place : Place) (name : DeclaredTree) (extended : List DeclaredTree) (signatures : List SignatureTree)
      → DeclTree
  ClassTree : (place : Place) (name : DeclaredTree) (params : List ParamTree) (implemented : List DeclaredTree)
      (members : List MemberTree) → DeclTree

-- a source: its declarations, and its main block with the place of the closing brace
pub record SourceTree : Type 0 where
  pub declarations : List DeclTree
  pub main : Statements
  pub end : Place

-- a program: a source whose names are resolved, with the table of all its names
pub record ProgramTree : Type 0 where
  pub names : List Name
  pub source : SourceTree
