-- The resolved tree of a source: each variable that is used or declared is a slot, a bound variable or a field, and
-- each type says what it is.
--
--   `resolved`                                         that of a source
--   `resolved_declaration`, `resolved_members`, ..     that of a declaration, of the members of a class
--   `resolved_statement`, `resolved_side`, ..          that of statements, right sides, guards
--   `resolved_expr`, `resolved_pattern`, ..            that of expressions and patterns
--   `resolved_use`, `resolved_field`                   that of the use of a name
use Rattle.std.specs.Prelude.{ℕ, ◌+◌, List, [], ◌∷◌, ◌++◌, length, Option, Some, None, if◌then◌else◌}
use Rattle.abs_program.specs.Slots.{is_this, statement_slots, statements_slots}
use Rattle.abs_tree.specs.Syntax.{Name, VariableTree, Unresolved, AtSlot, AtBound, AtField, PatternTree, AnyValue, Binds, SameNumber, SameString, Built, PatternTrees, NoPattern, NextPattern, ExprTree, LetIn, IfElse, OperatorsOf, Prefixed, NumberOf, StringOf, NullOf, DestinyOf, ThisOf, FieldOf, OwnCallOf, VariableOf, ApplyOf, BuildOf, CaseOf, ExprTrees, NoExpr, NextExpr, Operands, NoOperands, NextOperand, Branches, NoBranch, NextBranch, SideTree, NewOf, ValueOf, SendOf, GetOf, CallOf, Tests, NoTest, NextTest, TargetTree, ToVariable, ToField, MaybeSide, NoSide, SomeSide, Statement, BlockOf, SkipOf, SuspendOf, AwaitOf, ReturnOf, PrintOf, IfOf, WhileOf, DeclareOf, AssignOf, DoOf, MaybeStatements, NoElse, Else, Statements, NoStatement, NextStatement, ParamTree, ConstructorTree, SignatureTree, MaybeExpr, NoValue, Value, MemberTree, FieldTree, MethodTree, DeclTree, DataTree, FunctionTree, InterfaceTree, ClassTree, SourceTree}
use Rattle.abs_tree.specs.declared.place.Place.{Place}
use Rattle.abs_program.specs.NameSpaces.{NameSpaces, spaces_of}
use Rattle.abs_prelude.specs.Prelude.{prelude}
use Rattle.abs_names.specs.TypeNames.{Around, around_of, resolved_type, resolved_types}
use Rattle.abs_names.specs.declared.scope.Routine.TheVariants.{Main, Method, Function, Initial}
use Rattle.abs_names.specs.Scopes.{Meanings, Scope, field_of, use_of, next_bound, with_bound, pattern_scope, local_slot, statement_scope, body_scope, class_fields, fields_after}

-- the use of a variable; one that is unknown stays as it is
abbrev pub found_or : VariableTree → Option VariableTree → VariableTree
found_or variable (Some meaning) = meaning
found_or variable None = variable

abbrev pub resolved_use : Scope → VariableTree → VariableTree
resolved_use scope (Unresolved name) = found_or (Unresolved name) (use_of scope name)
resolved_use scope (AtSlot slot) = AtSlot slot
resolved_use scope (AtBound depth) = AtBound depth
resolved_use scope (AtField field) = AtField field

-- a field of `this`, which is a variable like others; one that is unknown stays as it is
abbrev pub field_expr : Place → Place → Name → Option VariableTree → ExprTree
field_expr place name_place name (Some field) = VariableOf place field
field_expr place name_place name None = FieldOf place name_place name

abbrev pub field_target : Place → Place → Name → Option VariableTree → TargetTree
field_target place name_place name (Some field) = ToVariable place field
field_target place name_place name None = ToField place name_place name

abbrev mutual
  -- a pattern
  pub resolved_pattern : Scope → PatternTree → PatternTree
  resolved_pattern scope (AnyValue place) = AnyValue place
  resolved_pattern scope (Binds place variable) = Binds place (next_bound scope)
  resolved_pattern scope (SameNumber place number) = SameNumber place number
  resolved_pattern scope (SameString place string) = SameString place string
  resolved_pattern scope (Built place constructor arguments) =
      Built place constructor (resolved_patterns scope arguments)

  pub resolved_patterns : Scope → PatternTrees → PatternTrees
  resolved_patterns scope NoPattern = NoPattern
  resolved_patterns scope (NextPattern first others) =
      NextPattern (resolved_pattern scope first) (resolved_patterns (pattern_scope scope first) others)

abbrev mutual
  -- an expression
  pub resolved_expr : Scope → ExprTree → ExprTree
  resolved_expr scope (LetIn place type variable_place variable value body) =
      LetIn place (resolved_type scope.around type) variable_place (next_bound scope) (resolved_expr scope value)
      (resolved_expr (with_bound scope variable) body)
  resolved_expr scope (IfElse place condition first second) =
      IfElse place (resolved_expr scope condition) (resolved_expr scope first) (resolved_expr scope second)
  resolved_expr scope (OperatorsOf place first operands) =
      OperatorsOf place (resolved_expr scope first) (resolved_operands scope operands)
  resolved_expr scope (Prefixed place prefix operand) = Prefixed place prefix (resolved_expr scope operand)
  resolved_expr scope (NumberOf place number) = NumberOf place number
  resolved_expr scope (StringOf place string) = StringOf place string
  resolved_expr scope (NullOf place) = NullOf place
  resolved_expr scope (DestinyOf place) = DestinyOf place
  resolved_expr scope (ThisOf place) = ThisOf place
  resolved_expr scope (FieldOf place name_place name) = field_expr place name_place name (field_of scope name)
  resolved_expr scope (OwnCallOf place method arguments) =
      OwnCallOf place method (resolved_exprs scope arguments)
  resolved_expr scope (VariableOf place variable) = VariableOf place (resolved_use scope variable)
  resolved_expr scope (ApplyOf place function arguments) = ApplyOf place function (resolved_exprs scope arguments)
  resolved_expr scope (BuildOf place constructor arguments) =
      BuildOf place constructor (resolved_exprs scope arguments)
  resolved_expr scope (CaseOf place subject branches) =
      CaseOf place (resolved_expr scope subject) (resolved_branches scope branches)

  pub resolved_exprs : Scope → ExprTrees → ExprTrees
  resolved_exprs scope NoExpr = NoExpr
  resolved_exprs scope (NextExpr first others) =
      NextExpr (resolved_expr scope first) (resolved_exprs scope others)

  pub resolved_operands : Scope → Operands → Operands
  resolved_operands scope NoOperands = NoOperands
  resolved_operands scope (NextOperand operator right others) =
      NextOperand operator (resolved_expr scope right) (resolved_operands scope others)

  pub resolved_branches : Scope → Branches → Branches
  resolved_branches scope NoBranch = NoBranch
  resolved_branches scope (NextBranch pattern value others) =
      NextBranch (resolved_pattern scope pattern) (resolved_expr (pattern_scope scope pattern) value)
      (resolved_branches scope others)

-- a right side, where `next` is the first free slot: it is that of the result of a call by "." on another object
abbrev pub hidden_slot : ℕ → ExprTrees → Option ℕ
hidden_slot next NoExpr = None
hidden_slot next (NextExpr receiver arguments) = if is_this receiver then None else Some next

abbrev pub resolved_side : Scope → ℕ → SideTree → SideTree
resolved_side scope next (NewOf place mode class_place class arguments) =
    NewOf place mode class_place class (resolved_exprs scope arguments)
resolved_side scope next (ValueOf place value) = ValueOf place (resolved_expr scope value)
resolved_side scope next (SendOf place method operands) = SendOf place method (resolved_exprs scope operands)
resolved_side scope next (GetOf place get_place future) = GetOf place get_place (resolved_expr scope future)
resolved_side scope next (CallOf place method operands slot) =
    CallOf place method (resolved_exprs scope operands) (hidden_slot next operands)

abbrev pub resolved_maybe_side : Scope → ℕ → MaybeSide → MaybeSide
resolved_maybe_side scope next NoSide = NoSide
resolved_maybe_side scope next (SomeSide side) = SomeSide (resolved_side scope next side)

-- a guard
abbrev pub resolved_tests : Scope → Tests → Tests
resolved_tests scope NoTest = NoTest
resolved_tests scope (NextTest place value asks others) =
    NextTest place (resolved_expr scope value) asks (resolved_tests scope others)

-- a target
abbrev pub resolved_target : Scope → TargetTree → TargetTree
resolved_target scope (ToVariable place variable) = ToVariable place (resolved_use scope variable)
resolved_target scope (ToField place name_place name) = field_target place name_place name (field_of scope name)

abbrev mutual
  -- a statement, where `next` is the first free slot
  pub resolved_statement : Scope → ℕ → Statement → Statement
  resolved_statement scope next (BlockOf place block) = BlockOf place (resolved_statements scope next block)
  resolved_statement scope next (SkipOf index place) = SkipOf index place
  resolved_statement scope next (SuspendOf index place) = SuspendOf index place
  resolved_statement scope next (AwaitOf index place guard) = AwaitOf index place (resolved_tests scope guard)
  resolved_statement scope next (ReturnOf index place value) = ReturnOf index place (resolved_expr scope value)
  resolved_statement scope next (PrintOf index place value) = PrintOf index place (resolved_expr scope value)
  resolved_statement scope next (IfOf index place condition first second) =
      IfOf index place (resolved_expr scope condition) (resolved_statements scope next first)
      (resolved_else scope (next + length (statements_slots first)) second)
  resolved_statement scope next (WhileOf index place condition body) =
      WhileOf index place (resolved_expr scope condition) (resolved_statements scope next body)
  resolved_statement scope next (DeclareOf index place type variable_place variable initial) =
      DeclareOf index place (resolved_type scope.around type) variable_place (local_slot next index initial)
      (resolved_maybe_side scope next initial)
  resolved_statement scope next (AssignOf index place target side) =
      AssignOf index place (resolved_target scope target) (resolved_side scope next side)
  resolved_statement scope next (DoOf index place side) = DoOf index place (resolved_side scope next side)

  pub resolved_else : Scope → ℕ → MaybeStatements → MaybeStatements
  resolved_else scope next NoElse = NoElse
  resolved_else scope next (Else branch) = Else (resolved_statements scope next branch)

  -- statements in order, each in the scope after the one before it
  pub resolved_statements : Scope → ℕ → Statements → Statements
  resolved_statements scope next NoStatement = NoStatement
  resolved_statements scope next (NextStatement first others) =
      NextStatement (resolved_statement scope next first)
      (resolved_statements (statement_scope scope next first) (next + length (statement_slots first)) others)

-- parameters, which are slots of a body or fields of a class, from this index on
abbrev pub resolved_params : Around → (ℕ → VariableTree) → ℕ → List ParamTree → List ParamTree
resolved_params around make index [] = []
resolved_params around make index (param ∷ others) =
    record { type_of = resolved_type around param.type_of; place = param.place; variable = make index }
    ∷ resolved_params around make (index + 1) others

-- the head of a method
abbrev pub resolved_signature : Around → SignatureTree → SignatureTree
resolved_signature around signature = record {
  result = resolved_type around signature.result;
  name = signature.name;
  params = resolved_params around AtSlot 0 signature.params;
}

abbrev pub resolved_signatures : Around → List SignatureTree → List SignatureTree
resolved_signatures around [] = []
resolved_signatures around (signature ∷ others) =
    resolved_signature around signature ∷ resolved_signatures around others

-- constructors, with the types of their arguments
abbrev pub resolved_constructors : Around → List ConstructorTree → List ConstructorTree
resolved_constructors around [] = []
resolved_constructors around (constructor ∷ others) =
    record { name = constructor.name; types = resolved_types around constructor.types }
    ∷ resolved_constructors around others

-- an initial value, if there is one
abbrev pub resolved_maybe_expr : Scope → MaybeExpr → MaybeExpr
resolved_maybe_expr scope NoValue = NoValue
resolved_maybe_expr scope (Value value) = Value (resolved_expr scope value)

-- a member of a class with these fields, where `earlier` of the fields come before it
abbrev pub resolved_member : Around → Meanings → ℕ → MemberTree → MemberTree
resolved_member around fields earlier (FieldTree type name initial) =
    FieldTree (resolved_type around type) name
    (resolved_maybe_expr (body_scope around (Initial earlier) fields []) initial)
resolved_member around fields earlier (MethodTree signature end body) =
    MethodTree (resolved_signature around signature) end
    (resolved_statements (body_scope around Method fields signature.params) (length signature.params) body)

abbrev pub resolved_members : Around → Meanings → ℕ → List MemberTree → List MemberTree
resolved_members around fields earlier [] = []
resolved_members around fields earlier (member ∷ others) =
    resolved_member around fields earlier member ∷ resolved_members around fields (fields_after earlier member) others

-- a declaration
abbrev pub resolved_declaration : NameSpaces → DeclTree → DeclTree
resolved_declaration spaces (DataTree place name type_params constructors) =
    DataTree place name type_params (resolved_constructors (around_of spaces type_params) constructors)
resolved_declaration spaces (FunctionTree place result name type_params params value) =
    FunctionTree place (resolved_type (around_of spaces type_params) result) name type_params
    (resolved_params (around_of spaces type_params) AtSlot 0 params)
    (resolved_expr (body_scope (around_of spaces type_params) Function [] params) value)
resolved_declaration spaces (InterfaceTree place name extended signatures) =
    InterfaceTree place name extended (resolved_signatures (around_of spaces []) signatures)
resolved_declaration spaces (ClassTree place name params implemented members) =
    ClassTree place name (resolved_params (around_of spaces []) AtField 0 params) implemented
    (resolved_members (around_of spaces []) (class_fields params members) (length params) members)

abbrev pub resolved_declarations : NameSpaces → List DeclTree → List DeclTree
resolved_declarations spaces [] = []
resolved_declarations spaces (declaration ∷ others) =
    resolved_declaration spaces declaration ∷ resolved_declarations spaces others

-- a source, before which the prelude is declared
abbrev pub resolved : SourceTree → SourceTree
resolved source = record {
  declarations = resolved_declarations (spaces_of (prelude ++ source.declarations)) (prelude ++ source.declarations);
  main = resolved_statements (body_scope (around_of (spaces_of (prelude ++ source.declarations)) []) Main [] []) 0
      source.main;
  end = source.end;
}
