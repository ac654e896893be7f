-- The slots that the declarations of a body have, and that its calls by "." on other objects have.
--
--   `numbered`                                 slots with their numbers
--   `given_params`, `given_statements`, ..     what declarations and calls were given, in the order of the source
--   `HasOwnSlots`                              those of a body are its slots, with their numbers
--   `AllHaveOwnSlots`                          this is so for each body of a source
use Rattle.std.specs.Prelude.{◌≡◌, ⊤, ℕ, ◌+◌, List, [], ◌∷◌, ◌++◌, length, All, Some, None}
use Rattle.abs_program.specs.Slots.{body_slots}
use Rattle.abs_tree.specs.Syntax.{VariableTree, AtSlot, SideTree, NewOf, ValueOf, SendOf, GetOf, CallOf, MaybeSide, NoSide, SomeSide, Statement, BlockOf, SkipOf, SuspendOf, AwaitOf, ReturnOf, PrintOf, IfOf, WhileOf, DeclareOf, AssignOf, DoOf, MaybeStatements, NoElse, Else, Statements, NoStatement, NextStatement, ParamTree, MemberTree, FieldTree, MethodTree, DeclTree, DataTree, FunctionTree, InterfaceTree, ClassTree, SourceTree}
use Rattle.abs_tree.specs.declared.syntax.slot.Slot.{Slot}
use Rattle.abs_tree.specs.declared.syntax.slot.Slot.TheVariants.{Parameter, Local, Hidden}

-- slots with what was given them
abbrev pub Given : Type 0
Given = List (Slot × VariableTree)

-- slots with their numbers, from this one on
abbrev pub numbered : ℕ → List Slot → Given
numbered next [] = []
numbered next (slot ∷ others) = (slot, AtSlot next) ∷ numbered (next + 1) others

-- what parameters were given, from the parameter with this index on
abbrev pub given_params : ℕ → List ParamTree → Given
given_params index [] = []
given_params index (param ∷ others) = (Parameter index, param.variable) ∷ given_params (index + 1) others

-- what the call on the right side of the statement with this index was given
abbrev pub given_side : ℕ → SideTree → Given
given_side index (CallOf place method operands (Some slot)) = (Hidden index, AtSlot slot) ∷ []
given_side index (CallOf place method operands None) = []
given_side index (NewOf place mode class_place class arguments) = []
given_side index (ValueOf place value) = []
given_side index (SendOf place method operands) = []
given_side index (GetOf place get_place future) = []

abbrev pub given_maybe_side : ℕ → MaybeSide → Given
given_maybe_side index NoSide = []
given_maybe_side index (SomeSide side) = given_side index side

abbrev mutual
  -- what the locals and the calls of a statement were given
  pub given_statement : Statement → Given
  given_statement (BlockOf place block) = given_statements block
  given_statement (SkipOf index place) = []
  given_statement (SuspendOf index place) = []
  given_statement (AwaitOf index place guard) = []
  given_statement (ReturnOf index place value) = []
  given_statement (PrintOf index place value) = []
  given_statement (IfOf index place condition first second) = given_statements first ++ given_else second
  given_statement (WhileOf index place condition body) = given_statements body
  given_statement (DeclareOf index place type variable_place variable initial) =
      given_maybe_side index initial ++ (Local index, variable) ∷ []
  given_statement (AssignOf index place target side) = given_side index side
  given_statement (DoOf index place side) = given_side index side

  pub given_else : MaybeStatements → Given
  given_else NoElse = []
  given_else (Else branch) = given_statements branch

  pub given_statements : Statements → Given
  given_statements NoStatement = []
  given_statements (NextStatement first others) = given_statement first ++ given_statements others

-- The parameters, the locals and the calls of a body were given its slots, in their order.
pub record HasOwnSlots (params : List ParamTree) (statements : Statements) : Type 0 where
  pub in_order : given_params 0 params ++ given_statements statements
      ≡ numbered 0 (body_slots (length params) statements)

-- so were those of a method, and those of a declaration
abbrev pub MemberHasOwnSlots : MemberTree → Type 0
MemberHasOwnSlots (FieldTree type name initial) = ⊤
MemberHasOwnSlots (MethodTree signature end body) = HasOwnSlots signature.params body

abbrev pub DeclarationHasOwnSlots : DeclTree → Type 0
DeclarationHasOwnSlots (DataTree place name type_params constructors) = ⊤
DeclarationHasOwnSlots (FunctionTree place result name type_params params value) = HasOwnSlots params NoStatement
DeclarationHasOwnSlots (InterfaceTree place name extended signatures) = ⊤
DeclarationHasOwnSlots (ClassTree place name params implemented members) = All MemberHasOwnSlots members

-- and those of each body of a source
pub record AllHaveOwnSlots (source : SourceTree) : Type 0 where
  pub declarations : All DeclarationHasOwnSlots source.declarations
  pub main : HasOwnSlots [] source.main
