-- Programs in which each name stands for what is there. Every function, constructor, class, interface and type that is
-- named is declared, and takes as many arguments as it is given; every slot, bound variable and field is there; `this`
-- and `destiny` are used where they mean something. Nothing is left unresolved, and no interface extends itself. No two
-- parameters or locals of a body share a slot. The types of the prelude are declared first, and no two types have one
-- name.
--
--   `Inside`                                       what a part of a program can use
--   `TypeIsThere`, `VariableIsThere`               types, variables that are used
--   `PatternIsThere`, `ExprIsThere`, ..            patterns, expressions
--   `SideIsThere`, `StatementIsThere`, ..          right sides, guards, targets, statements
--   `MemberIsThere`, `DeclarationIsThere`          members of classes, declarations
--   `IsWhole`                                      a program
use Rattle.std.specs.Prelude.{◌≡◌, ⊤, ℕ, ◌+◌, ◌<◌, Bool, true, false, List, [], ◌∷◌, length, All, Option, Some, None, option_map}
use Rattle.abs_graph.specs.Graphs.{on_cycles}
use Rattle.abs_program.specs.NameSpaces.{NameSpaces, spaces_of, count_types, data_arity, function_arity, means_interface}
use Rattle.abs_program.specs.NamedDeclarations.{TypesAreOnce}
use Rattle.abs_program.specs.OwnSlots.{AllHaveOwnSlots}
use Rattle.abs_program.specs.PreludeTypes.{BeginsWithPrelude}
use Rattle.abs_program.specs.Slots.{body_slots}
use Rattle.abs_program.specs.Supertypes.{supertypes}
use Rattle.abs_tree.specs.Syntax.{VariableTree, Unresolved, AtSlot, AtBound, AtField, TypeTree, UnresolvedType, IntType, StringType, FutType, DataType, InterfaceType, ParameterType, BottomType, NullType, ClassType, TypeTrees, NoType, NextType, PatternTree, AnyValue, Binds, SameNumber, SameString, Built, PatternTrees, NoPattern, NextPattern, ExprTree, LetIn, IfElse, OperatorsOf, Prefixed, NumberOf, StringOf, NullOf, DestinyOf, ThisOf, FieldOf, OwnCallOf, VariableOf, ApplyOf, BuildOf, CaseOf, ExprTrees, NoExpr, NextExpr, Operands, NoOperands, NextOperand, Branches, NoBranch, NextBranch, SideTree, NewOf, ValueOf, SendOf, GetOf, CallOf, Tests, NoTest, NextTest, TargetTree, ToVariable, ToField, MaybeSide, NoSide, SomeSide, Statement, BlockOf, SkipOf, SuspendOf, AwaitOf, ReturnOf, PrintOf, IfOf, WhileOf, DeclareOf, AssignOf, DoOf, MaybeStatements, NoElse, Else, Statements, NoStatement, NextStatement, MaybeExpr, NoValue, Value, ParamTree, DeclaredTree, ConstructorTree, SignatureTree, MemberTree, FieldTree, MethodTree, DeclTree, DataTree, FunctionTree, InterfaceTree, ClassTree, SourceTree}
use Rattle.abs_tree.specs.SyntaxCounts.{count_patterns, count_exprs}
use Rattle.abs_tree.specs.SyntaxSizes.{pattern_variables, fields_among}
use Rattle.abs_program.specs.Tables.{meaning_of}
use Rattle.abs_program.specs.declared.name_spaces.ConstructorMeaning.{ConstructorMeaning}
use Rattle.abs_program.specs.declared.name_spaces.Taking.{Taking}

-- What a part of a program can use: what is declared, how many type parameters there are, whether there is `this` and
-- whether there is a task, how many fields `this` has, and how many slots the body has.
pub record Inside : Type 0 where
  pub spaces : NameSpaces
  pub type_params : ℕ
  pub has_this : Bool
  pub has_task : Bool
  pub fields : ℕ
  pub slots : ℕ

-- what types alone can use: the name spaces and the type parameters of a declaration
abbrev pub inside_types : NameSpaces → ℕ → Inside
inside_types spaces type_params = record {
  spaces = spaces;
  type_params = type_params;
  has_this = false;
  has_task = false;
  fields = 0;
  slots = 0;
}

-- a type
abbrev mutual
  pub TypeIsThere : Inside → TypeTree → Type 0
  TypeIsThere inside (IntType place) = ⊤
  TypeIsThere inside (StringType place) = ⊤
  TypeIsThere inside (FutType place value) = TypeIsThere inside value
  TypeIsThere inside (DataType place name arguments) =
      (data_arity (meaning_of inside.spaces.types name) ≡ Some (count_types arguments))
      × TypesAreThere inside arguments
  TypeIsThere inside (InterfaceType place name) = means_interface (meaning_of inside.spaces.types name) ≡ true
  TypeIsThere inside (ParameterType place parameter) = parameter < inside.type_params
  TypeIsThere inside (UnresolvedType place name arguments) = ⊥
  TypeIsThere inside BottomType = ⊥
  TypeIsThere inside NullType = ⊥
  TypeIsThere inside (ClassType name) = ⊥

  pub TypesAreThere : Inside → TypeTrees → Type 0
  TypesAreThere inside NoType = ⊤
  TypesAreThere inside (NextType first others) = TypeIsThere inside first × TypesAreThere inside others

-- a variable that is used where so many variables are bound
abbrev pub VariableIsThere : Inside → ℕ → VariableTree → Type 0
VariableIsThere inside bound (AtSlot slot) = slot < inside.slots
VariableIsThere inside bound (AtBound depth) = depth < bound
VariableIsThere inside bound (AtField field) = field < inside.fields
VariableIsThere inside bound (Unresolved name) = ⊥

-- a pattern where so many variables are bound: each variable of it gets the next number
abbrev mutual
  pub PatternIsThere : Inside → ℕ → PatternTree → Type 0
  PatternIsThere inside bound (Built place constructor arguments) =
      (option_map (λ (c : ConstructorMeaning). c.taking.arity) (meaning_of inside.spaces.constructors constructor)
      ≡ Some (count_patterns arguments))
      × PatternsAreThere inside bound arguments
  PatternIsThere inside bound (Binds place variable) = variable ≡ AtBound bound
  PatternIsThere inside bound (AnyValue place) = ⊤
  PatternIsThere inside bound (SameNumber place number) = ⊤
  PatternIsThere inside bound (SameString place string) = ⊤

  pub PatternsAreThere : Inside → ℕ → PatternTrees → Type 0
  PatternsAreThere inside bound NoPattern = ⊤
  PatternsAreThere inside bound (NextPattern first others) =
      PatternIsThere inside bound first × PatternsAreThere inside (bound + pattern_variables first) others

-- an expression where so many variables are bound
abbrev mutual
  pub ExprIsThere : Inside → ℕ → ExprTree → Type 0
  ExprIsThere inside bound (LetIn place type variable_place variable value body) =
      TypeIsThere inside type × ExprIsThere inside bound value × (variable ≡ AtBound bound)
      × ExprIsThere inside (bound + 1) body
  ExprIsThere inside bound (IfElse place condition first second) =
      ExprIsThere inside bound condition × ExprIsThere inside bound first × ExprIsThere inside bound second
  ExprIsThere inside bound (OperatorsOf place first operands) =
      ExprIsThere inside bound first × OperandsAreThere inside bound operands
  ExprIsThere inside bound (Prefixed place prefix operand) = ExprIsThere inside bound operand
  ExprIsThere inside bound (NumberOf place number) = ⊤
  ExprIsThere inside bound (StringOf place string) = ⊤
  ExprIsThere inside bound (NullOf place) = ⊤
  ExprIsThere inside bound (DestinyOf place) = inside.has_task ≡ true
  ExprIsThere inside bound (ThisOf place) = inside.has_this ≡ true
  ExprIsThere inside bound (FieldOf place name_place name) = ⊥
  ExprIsThere inside bound (OwnCallOf place method arguments) =
      (inside.has_this ≡ true) × ExprsAreThere inside bound arguments
  ExprIsThere inside bound (VariableOf place variable) = VariableIsThere inside bound variable
  ExprIsThere inside bound (ApplyOf place function arguments) =
      (option_map function_arity (meaning_of inside.spaces.functions function) ≡ Some (count_exprs arguments))
      × ExprsAreThere inside bound arguments
  ExprIsThere inside bound (BuildOf place constructor arguments) =
      (option_map (λ (c : ConstructorMeaning). c.taking.arity) (meaning_of inside.spaces.constructors constructor)
      ≡ Some (count_exprs arguments))
      × ExprsAreThere inside bound arguments
  ExprIsThere inside bound (CaseOf place subject branches) =
      ExprIsThere inside bound subject × BranchesAreThere inside bound branches

  pub ExprsAreThere : Inside → ℕ → ExprTrees → Type 0
  ExprsAreThere inside bound NoExpr = ⊤
  ExprsAreThere inside bound (NextExpr first others) =
      ExprIsThere inside bound first × ExprsAreThere inside bound others

  pub OperandsAreThere : Inside → ℕ → Operands → Type 0
  OperandsAreThere inside bound NoOperands = ⊤
  OperandsAreThere inside bound (NextOperand operator right others) =
      ExprIsThere inside bound right × OperandsAreThere inside bound others

  pub BranchesAreThere : Inside → ℕ → Branches → Type 0
  BranchesAreThere inside bound NoBranch = ⊤
  BranchesAreThere inside bound (NextBranch pattern value others) =
      PatternIsThere inside bound pattern × ExprIsThere inside (bound + pattern_variables pattern) value
      × BranchesAreThere inside bound others

-- the slot of the result of a call, if it has one
abbrev pub HiddenIsThere : Inside → Option ℕ → Type 0
HiddenIsThere inside None = ⊤
HiddenIsThere inside (Some slot) = slot < inside.slots

-- a right side
abbrev pub SideIsThere : Inside → SideTree → Type 0
SideIsThere inside (NewOf place mode class_place class arguments) =
    (option_map (λ (c : Taking). c.arity) (meaning_of inside.spaces.classes class) ≡ Some (count_exprs arguments))
    × ExprsAreThere inside 0 arguments
SideIsThere inside (ValueOf place value) = ExprIsThere inside 0 value
SideIsThere inside (SendOf place method operands) = ExprsAreThere inside 0 operands
SideIsThere inside (GetOf place get_place future) = ExprIsThere inside 0 future
SideIsThere inside (CallOf place method operands slot) = ExprsAreThere inside 0 operands × HiddenIsThere inside slot

abbrev pub MaybeSideIsThere : Inside → MaybeSide → Type 0
MaybeSideIsThere inside NoSide = ⊤
MaybeSideIsThere inside (SomeSide side) = SideIsThere inside side

-- a guard
abbrev pub TestsAreThere : Inside → Tests → Type 0
TestsAreThere inside NoTest = ⊤
TestsAreThere inside (NextTest place value asks others) = ExprIsThere inside 0 value × TestsAreThere inside others

-- a target
abbrev pub TargetIsThere : Inside → TargetTree → Type 0
TargetIsThere inside (ToVariable place variable) = VariableIsThere inside 0 variable
TargetIsThere inside (ToField place name_place name) = ⊥

abbrev mutual
  -- a statement
  pub StatementIsThere : Inside → Statement → Type 0
  StatementIsThere inside (BlockOf place block) = StatementsAreThere inside block
  StatementIsThere inside (SkipOf index place) = ⊤
  StatementIsThere inside (SuspendOf index place) = ⊤
  StatementIsThere inside (AwaitOf index place guard) = TestsAreThere inside guard
  StatementIsThere inside (ReturnOf index place value) = ExprIsThere inside 0 value
  StatementIsThere inside (PrintOf index place value) = ExprIsThere inside 0 value
  StatementIsThere inside (IfOf index place condition first second) =
      ExprIsThere inside 0 condition × StatementsAreThere inside first × ElseIsThere inside second
  StatementIsThere inside (WhileOf index place condition body) =
      ExprIsThere inside 0 condition × StatementsAreThere inside body
  StatementIsThere inside (DeclareOf index place type variable_place variable initial) =
      TypeIsThere inside type × VariableIsThere inside 0 variable × MaybeSideIsThere inside initial
  StatementIsThere inside (AssignOf index place target side) = TargetIsThere inside target × SideIsThere inside side
  StatementIsThere inside (DoOf index place side) = SideIsThere inside side

  pub ElseIsThere : Inside → MaybeStatements → Type 0
  ElseIsThere inside NoElse = ⊤
  ElseIsThere inside (Else branch) = StatementsAreThere inside branch

  pub StatementsAreThere : Inside → Statements → Type 0
  StatementsAreThere inside NoStatement = ⊤
  StatementsAreThere inside (NextStatement first others) =
      StatementIsThere inside first × StatementsAreThere inside others

-- parameters, of which the first has this index: each is the slot or the field of its index
abbrev pub ParamsAreThere : Inside → (ℕ → VariableTree) → ℕ → List ParamTree → Type 0
ParamsAreThere inside make index [] = ⊤
ParamsAreThere inside make index (param ∷ others) =
    TypeIsThere inside param.type_of × (param.variable ≡ make index) × ParamsAreThere inside make (index + 1) others

-- the head of a method
abbrev pub SignatureIsThere : NameSpaces → SignatureTree → Type 0
SignatureIsThere spaces signature = TypeIsThere (inside_types spaces 0) signature.result
    × ParamsAreThere (inside_types spaces 0) AtSlot 0 signature.params

-- names that must be those of interfaces
abbrev pub NameInterfaces : NameSpaces → List DeclaredTree → Type 0
NameInterfaces spaces names =
    All (λ (name : DeclaredTree). means_interface (meaning_of spaces.types name.name) ≡ true) names

-- an initial value, if there is one
abbrev pub InitialIsThere : Inside → MaybeExpr → Type 0
InitialIsThere inside NoValue = ⊤
InitialIsThere inside (Value value) = ExprIsThere inside 0 value

-- a member of a class with so many fields, of which `earlier` come before it: an initial value can use these as slots
abbrev pub MemberIsThere : NameSpaces → ℕ → ℕ → MemberTree → Type 0
MemberIsThere spaces fields earlier (FieldTree type name initial) =
    TypeIsThere (inside_types spaces 0) type
    × InitialIsThere (record (inside_types spaces 0) { slots = earlier }) initial
MemberIsThere spaces fields earlier (MethodTree signature end body) =
    SignatureIsThere spaces signature
    × StatementsAreThere (record {
      spaces = spaces;
      type_params = 0;
      has_this = true;
      has_task = true;
      fields = fields;
      slots = length (body_slots (length signature.params) body);
    }) body

abbrev pub MembersAreThere : NameSpaces → ℕ → ℕ → List MemberTree → Type 0
MembersAreThere spaces fields earlier [] = ⊤
MembersAreThere spaces fields earlier (member ∷ others) =
    MemberIsThere spaces fields earlier member
    × MembersAreThere spaces fields (earlier + fields_among (member ∷ [])) others

-- the types of constructors
abbrev pub ConstructorsAreThere : Inside → List ConstructorTree → Type 0
ConstructorsAreThere inside constructors =
    All (λ (constructor : ConstructorTree). TypesAreThere inside constructor.types) constructors

-- a declaration
abbrev pub DeclarationIsThere : NameSpaces → DeclTree → Type 0
DeclarationIsThere spaces (DataTree place name type_params constructors) =
    ConstructorsAreThere (inside_types spaces (length type_params)) constructors
DeclarationIsThere spaces (FunctionTree place result name type_params params value) =
    TypeIsThere (inside_types spaces (length type_params)) result
    × ParamsAreThere (inside_types spaces (length type_params)) AtSlot 0 params
    × ExprIsThere (record (inside_types spaces (length type_params)) { slots = length params }) 0 value
DeclarationIsThere spaces (InterfaceTree place name extended signatures) =
    NameInterfaces spaces extended × All (SignatureIsThere spaces) signatures
DeclarationIsThere spaces (ClassTree place name params implemented members) =
    NameInterfaces spaces implemented × ParamsAreThere (inside_types spaces 0) AtField 0 params
    × MembersAreThere spaces (length params + fields_among members) (length params) members

-- A program: its declarations and its main block, and no interface extends itself. Each parameter, each local and each
-- call by "." on another object has its own slot, so no declaration names a field. The types of the prelude come first,
-- and no two types have one name.
pub record IsWhole (source : SourceTree) : Type 0 where
  pub declarations_are : All (DeclarationIsThere (spaces_of source.declarations)) source.declarations
  pub main_is : StatementsAreThere (record {
    spaces = spaces_of source.declarations;
    type_params = 0;
    has_this = false;
    has_task = true;
    fields = 0;
    slots = length (body_slots 0 source.main);
  }) source.main
  pub no_cycle : All (λ is_on_cycle. is_on_cycle ≡ false) (on_cycles (supertypes source.declarations))
  pub own_slots : AllHaveOwnSlots source
  pub prelude_first : BeginsWithPrelude source
  pub types_once : TypesAreOnce (spaces_of source.declarations) 0 source.declarations
