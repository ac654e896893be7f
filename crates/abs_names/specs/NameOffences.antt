-- The name offences of a source: what is declared twice (N1), what is used without a declaration or where it is not
-- visible (N2), what is used with another number of arguments than declared (N3), and interfaces that extend themselves
-- (N4). A type or a variable that is resolved already, which no source writes, is N2 too. The order of a list means
-- nothing: the first offence is the one of least place.
--
--   `name_offences`                                    those of a source
--   `declaration_offences`, `members_offences`         those of a declaration, of the members of a class
--   `statement_offences`, `side_offences`, ..          those of statements, right sides, guards
--   `expr_offences`, `pattern_offences`, ..            those of expressions and patterns
--   `use_offences`, `bind_offences`, ..                those of one name
use Rattle.std.specs.Prelude.{ℕ, ◌+◌, List, [], ◌∷◌, ◌++◌, length, is_some, if◌then◌else◌}
use Rattle.abs_program.specs.Slots.{statement_slots, statements_slots}
use Rattle.abs_tree.specs.Syntax.{Name, VariableTree, Unresolved, AtSlot, AtBound, AtField, PatternTree, AnyValue, Binds, SameNumber, SameString, Built, PatternTrees, NoPattern, NextPattern, ExprTree, LetIn, IfElse, OperatorsOf, Prefixed, NumberOf, StringOf, NullOf, DestinyOf, ThisOf, FieldOf, OwnCallOf, VariableOf, ApplyOf, BuildOf, CaseOf, ExprTrees, NoExpr, NextExpr, Operands, NoOperands, NextOperand, Branches, NoBranch, NextBranch, SideTree, NewOf, ValueOf, SendOf, GetOf, CallOf, Tests, NoTest, NextTest, TargetTree, ToVariable, ToField, MaybeSide, NoSide, SomeSide, Statement, BlockOf, SkipOf, SuspendOf, AwaitOf, ReturnOf, PrintOf, IfOf, WhileOf, DeclareOf, AssignOf, DoOf, MaybeStatements, NoElse, Else, Statements, NoStatement, NextStatement, MaybeExpr, NoValue, Value, ParamTree, DeclaredTree, ConstructorTree, SignatureTree, MemberTree, FieldTree, MethodTree, DeclTree, DataTree, FunctionTree, InterfaceTree, ClassTree, SourceTree}
use Rattle.abs_tree.specs.SyntaxCounts.{count_patterns, count_exprs}
use Rattle.abs_tree.specs.declared.place.Place.{Place}
use Rattle.abs_tree.specs.declared.refusal.Offence.{Offence}
use Rattle.abs_tree.specs.declared.refusal.Code.TheVariants.{N2}
use Rattle.abs_names.specs.declared.scope.Routine.TheVariants.{Main, Method, Function, Initial}
use Rattle.abs_graph.specs.Graphs.{on_cycles}
use Rattle.abs_names.specs.Extension.{extension_offences}
use Rattle.abs_program.specs.Supertypes.{supertypes}
use Rattle.abs_names.specs.Repeats.{declarations_repeats}
use Rattle.abs_prelude.specs.Prelude.{prelude}
use Rattle.abs_names.specs.Single.{unknown, unwritten, twice}
use Rattle.abs_names.specs.Spaces.{spaces_offences}
use Rattle.abs_names.specs.TypeNames.{Around, around_of, applied, function_taking, constructor_taking, class_taking, type_offences, types_offences}
use Rattle.abs_program.specs.NameSpaces.{NameSpaces, built_in, spaces_of, means_interface}
use Rattle.abs_program.specs.Tables.{meaning_of}
use Rattle.abs_names.specs.Scopes.{Meanings, Scope, has_this, has_task, field_of, use_of, is_taken, with_bound, pattern_scope, statement_scope, body_scope, class_fields, fields_after}

-- the use of a variable; a source does not write one that is resolved already
abbrev pub use_offences : Scope → Place → VariableTree → List Offence
use_offences scope place (Unresolved name) = unknown (is_some (use_of scope name)) place
use_offences scope place (AtSlot slot) = unwritten place
use_offences scope place (AtBound depth) = unwritten place
use_offences scope place (AtField field) = unwritten place

-- a variable that a pattern or a `let` binds
abbrev pub bind_offences : Scope → Place → VariableTree → List Offence
bind_offences scope place (Unresolved name) = twice (is_taken scope name) place
bind_offences scope place (AtSlot slot) = unwritten place
bind_offences scope place (AtBound depth) = unwritten place
bind_offences scope place (AtField field) = unwritten place

-- a local that a statement declares; it may have the name of a field
abbrev pub local_offences : Scope → Place → VariableTree → List Offence
local_offences scope place (Unresolved name) = twice (is_some (meaning_of scope.variables name)) place
local_offences scope place (AtSlot slot) = []
local_offences scope place (AtBound depth) = []
local_offences scope place (AtField field) = []

-- `this`, and a field of it
abbrev pub this_offences : Scope → Place → List Offence
this_offences scope place = unknown (has_this scope.routine) place

abbrev pub field_offences : Scope → Place → Place → Name → List Offence
field_offences scope place name_place name =
    if has_this scope.routine then unknown (is_some (field_of scope name)) name_place
    else record { place = place; code = N2 } ∷ []

abbrev mutual
  -- a pattern; the variables before one in the same pattern are visible to it
  pub pattern_offences : Scope → PatternTree → List Offence
  pattern_offences scope (AnyValue place) = []
  pattern_offences scope (Binds place variable) = bind_offences scope place variable
  pattern_offences scope (SameNumber place number) = []
  pattern_offences scope (SameString place string) = []
  pattern_offences scope (Built place constructor arguments) =
      applied (constructor_taking scope.around constructor) (count_patterns arguments) place
      ++ patterns_offences scope arguments

  pub patterns_offences : Scope → PatternTrees → List Offence
  patterns_offences scope NoPattern = []
  patterns_offences scope (NextPattern first others) =
      pattern_offences scope first ++ patterns_offences (pattern_scope scope first) others

abbrev mutual
  -- an expression
  pub expr_offences : Scope → ExprTree → List Offence
  expr_offences scope (LetIn place type variable_place variable value body) =
      type_offences scope.around type
      ++ (expr_offences scope value
      ++ (bind_offences scope variable_place variable ++ expr_offences (with_bound scope variable) body))
  expr_offences scope (IfElse place condition first second) =
      expr_offences scope condition ++ (expr_offences scope first ++ expr_offences scope second)
  expr_offences scope (OperatorsOf place first operands) =
      expr_offences scope first ++ operands_offences scope operands
  expr_offences scope (Prefixed place prefix operand) = expr_offences scope operand
  expr_offences scope (NumberOf place number) = []
  expr_offences scope (StringOf place string) = []
  expr_offences scope (NullOf place) = []
  expr_offences scope (DestinyOf place) = unknown (has_task scope.routine) place
  expr_offences scope (ThisOf place) = this_offences scope place
  expr_offences scope (FieldOf place name_place name) = field_offences scope place name_place name
  expr_offences scope (OwnCallOf place method arguments) =
      this_offences scope place ++ exprs_offences scope arguments
  expr_offences scope (VariableOf place variable) = use_offences scope place variable
  expr_offences scope (ApplyOf place function arguments) =
      applied (function_taking scope.around function) (count_exprs arguments) place
      ++ exprs_offences scope arguments
  expr_offences scope (BuildOf place constructor arguments) =
      applied (constructor_taking scope.around constructor) (count_exprs arguments) place
      ++ exprs_offences scope arguments
  expr_offences scope (CaseOf place subject branches) =
      expr_offences scope subject ++ branches_offences scope branches

  pub exprs_offences : Scope → ExprTrees → List Offence
  exprs_offences scope NoExpr = []
  exprs_offences scope (NextExpr first others) = expr_offences scope first ++ exprs_offences scope others

  pub operands_offences : Scope → Operands → List Offence
  operands_offences scope NoOperands = []
  operands_offences scope (NextOperand operator right others) =
      expr_offences scope right ++ operands_offences scope others

  pub branches_offences : Scope → Branches → List Offence
  branches_offences scope NoBranch = []
  branches_offences scope (NextBranch pattern value others) =
      pattern_offences scope pattern
      ++ (expr_offences (pattern_scope scope pattern) value ++ branches_offences scope others)

-- a right side
abbrev pub side_offences : Scope → SideTree → List Offence
side_offences scope (NewOf place mode class_place class arguments) =
    applied (class_taking scope.around class) (count_exprs arguments) class_place
    ++ exprs_offences scope arguments
side_offences scope (ValueOf place value) = expr_offences scope value
side_offences scope (SendOf place method operands) = exprs_offences scope operands
side_offences scope (GetOf place get_place future) = expr_offences scope future
side_offences scope (CallOf place method operands slot) = exprs_offences scope operands

abbrev pub maybe_side_offences : Scope → MaybeSide → List Offence
maybe_side_offences scope NoSide = []
maybe_side_offences scope (SomeSide side) = side_offences scope side

-- a guard
abbrev pub tests_offences : Scope → Tests → List Offence
tests_offences scope NoTest = []
tests_offences scope (NextTest place value asks others) = expr_offences scope value ++ tests_offences scope others

-- a target
abbrev pub target_offences : Scope → TargetTree → List Offence
target_offences scope (ToVariable place variable) = use_offences scope place variable
target_offences scope (ToField place name_place name) = field_offences scope place name_place name

abbrev mutual
  -- a statement, where `next` is the first free slot
  pub statement_offences : Scope → ℕ → Statement → List Offence
  statement_offences scope next (BlockOf place block) = statements_offences scope next block
  statement_offences scope next (SkipOf index place) = []
  statement_offences scope next (SuspendOf index place) = []
  statement_offences scope next (AwaitOf index place guard) = tests_offences scope guard
  statement_offences scope next (ReturnOf index place value) = expr_offences scope value
  statement_offences scope next (PrintOf index place value) = expr_offences scope value
  statement_offences scope next (IfOf index place condition first second) =
      expr_offences scope condition
      ++ (statements_offences scope next first
      ++ else_offences scope (next + length (statements_slots first)) second)
  statement_offences scope next (WhileOf index place condition body) =
      expr_offences scope condition ++ statements_offences scope next body
  statement_offences scope next (DeclareOf index place type variable_place variable initial) =
      type_offences scope.around type
      ++ (maybe_side_offences scope initial ++ local_offences scope variable_place variable)
  statement_offences scope next (AssignOf index place target side) =
      target_offences scope target ++ side_offences scope side
  statement_offences scope next (DoOf index place side) = side_offences scope side

  pub else_offences : Scope → ℕ → MaybeStatements → List Offence
  else_offences scope next NoElse = []
  else_offences scope next (Else branch) = statements_offences scope next branch

  -- statements in order, each in the scope after the one before it
  pub statements_offences : Scope → ℕ → Statements → List Offence
  statements_offences scope next NoStatement = []
  statements_offences scope next (NextStatement first others) =
      statement_offences scope next first
      ++ statements_offences (statement_scope scope next first) (next + length (statement_slots first)) others

-- an initial value, if there is one
abbrev pub maybe_expr_offences : Scope → MaybeExpr → List Offence
maybe_expr_offences scope NoValue = []
maybe_expr_offences scope (Value value) = expr_offences scope value

-- the types of parameters
abbrev pub params_offences : Around → List ParamTree → List Offence
params_offences around [] = []
params_offences around (param ∷ others) = type_offences around param.type_of ++ params_offences around others

-- heads of methods
abbrev pub signature_offences : Around → SignatureTree → List Offence
signature_offences around signature =
    type_offences around signature.result ++ params_offences around signature.params

abbrev pub signatures_offences : Around → List SignatureTree → List Offence
signatures_offences around [] = []
signatures_offences around (signature ∷ others) =
    signature_offences around signature ++ signatures_offences around others

-- names after `extends` or `implements`, which must be those of interfaces
abbrev pub interfaces_offences : Around → List DeclaredTree → List Offence
interfaces_offences around [] = []
interfaces_offences around (name ∷ others) =
    unknown (means_interface (meaning_of around.spaces.types name.name)) name.place ++ interfaces_offences around others

-- the types of constructors
abbrev pub constructor_types_offences : Around → List ConstructorTree → List Offence
constructor_types_offences around [] = []
constructor_types_offences around (constructor ∷ others) =
    types_offences around constructor.types ++ constructor_types_offences around others

-- a member of a class with these fields, where `earlier` of the fields come before it
abbrev pub member_offences : Around → Meanings → ℕ → MemberTree → List Offence
member_offences around fields earlier (FieldTree type name initial) =
    type_offences around type ++ maybe_expr_offences (body_scope around (Initial earlier) fields []) initial
member_offences around fields earlier (MethodTree signature end body) =
    signature_offences around signature
    ++ statements_offences (body_scope around Method fields signature.params) (length signature.params) body

abbrev pub members_offences : Around → Meanings → ℕ → List MemberTree → List Offence
members_offences around fields earlier [] = []
members_offences around fields earlier (member ∷ others) =
    member_offences around fields earlier member ++ members_offences around fields (fields_after earlier member) others

-- a class: its parameters and its members
abbrev pub class_offences : Around → List ParamTree → List MemberTree → List Offence
class_offences around params members =
    params_offences around params ++ members_offences around (class_fields params members) (length params) members

-- a declaration
abbrev pub declaration_offences : NameSpaces → DeclTree → List Offence
declaration_offences spaces (DataTree place name type_params constructors) =
    constructor_types_offences (around_of spaces type_params) constructors
declaration_offences spaces (FunctionTree place result name type_params params value) =
    type_offences (around_of spaces type_params) result
    ++ (params_offences (around_of spaces type_params) params
    ++ expr_offences (body_scope (around_of spaces type_params) Function [] params) value)
declaration_offences spaces (InterfaceTree place name extended signatures) =
    interfaces_offences (around_of spaces []) extended ++ signatures_offences (around_of spaces []) signatures
declaration_offences spaces (ClassTree place name params implemented members) =
    interfaces_offences (around_of spaces []) implemented ++ class_offences (around_of spaces []) params members

abbrev pub declarations_offences : NameSpaces → List DeclTree → List Offence
declarations_offences spaces [] = []
declarations_offences spaces (declaration ∷ others) =
    declaration_offences spaces declaration ++ declarations_offences spaces others

-- all declarations of a source, with those of the prelude before them: what is declared twice
abbrev pub repeated_offences : List DeclTree → List Offence
repeated_offences declarations = spaces_offences 0 built_in declarations ++ declarations_repeats declarations

-- and all else: other names in them, and interfaces that extend themselves (no class does, since nothing leads to one)
abbrev pub declared_offences : List DeclTree → List Offence
declared_offences declarations =
    repeated_offences declarations
    ++ (declarations_offences (spaces_of declarations) declarations
    ++ extension_offences (on_cycles (supertypes declarations)) declarations)

-- a source, before which the prelude is declared
abbrev pub name_offences : SourceTree → List Offence
name_offences source =
    let declarations = prelude ++ source.declarations in
    declared_offences declarations
    ++ statements_offences (body_scope (around_of (spaces_of declarations) []) Main [] []) 0 source.main
