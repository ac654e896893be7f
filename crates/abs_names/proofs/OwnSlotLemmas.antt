-- The parameters, the locals and the calls by "." of each body have its slots, in their order, once names are resolved.
use Rattle.std.proofs.Common.{◌≡◌, ℕ, zero, suc, ◌+◌, ◌<◌, Bool, true, false, List, [], ◌∷◌, ◌++◌, refl, sym, ap, ◌∙◌, cond, length, get_or, map, arith}
use Rattle.std.specs.Prelude.{Some, None, All}
use Rattle.std.specs.List.{range_with_len}
use Rattle.std.proofs.lemmas.List.Elements.{All-nil, All-cons}
use Rattle.std.proofs.lemmas.List.FromFn.{length-map-range_with_len}
use Rattle.abs_program.specs.Slots.{is_this, side_slots, maybe_side_slots, statement_slots, else_slots, statements_slots, param_slots, body_slots}
use Rattle.abs_tree.specs.Syntax.{Name, VariableTree, AtSlot, ExprTrees, NoExpr, NextExpr, SideTree, NewOf, ValueOf, SendOf, GetOf, CallOf, MaybeSide, NoSide, SomeSide, Statement, BlockOf, SkipOf, SuspendOf, AwaitOf, ReturnOf, PrintOf, IfOf, WhileOf, DeclareOf, AssignOf, DoOf, MaybeStatements, NoElse, Else, Statements, NoStatement, NextStatement, ParamTree, MemberTree, FieldTree, MethodTree, DeclTree, DataTree, FunctionTree, InterfaceTree, ClassTree, SourceTree}
use Rattle.abs_tree.specs.declared.place.Place.{Place}
use Rattle.abs_tree.specs.declared.syntax.slot.Slot.{Slot}
use Rattle.abs_tree.specs.declared.syntax.slot.Slot.TheVariants.{Parameter, Local, Hidden}
use Rattle.abs_program.specs.NameSpaces.{NameSpaces, spaces_of}
use Rattle.abs_program.specs.OwnSlots.{Given, numbered, given_params, given_side, given_maybe_side, given_statement, given_else, given_statements, HasOwnSlots, MemberHasOwnSlots, DeclarationHasOwnSlots, AllHaveOwnSlots}
use Rattle.abs_names.specs.Resolution.{resolved_exprs, resolved_side, resolved_maybe_side, resolved_statement, resolved_else, resolved_statements, resolved_params, resolved_members, resolved_declarations, resolved}
use Rattle.abs_prelude.specs.Prelude.{prelude}
use Rattle.abs_names.specs.TypeNames.{Around, around_of}
use Rattle.abs_names.specs.Scopes.{Meanings, Scope, statement_scope, body_scope, class_fields}
use Rattle.abs_names.specs.declared.scope.Routine.TheVariants.{Main, Method, Function}
use Rattle.abs_names.proofs.SlotLemmas.{statements_kept}
use Rattle.abs_names.proofs.ParamLemmas.{params_length}

-- slots after others are numbered on
numbered-append : (next : ℕ) (slots others : List Slot)
    → numbered next (slots ++ others) ≡ numbered next slots ++ numbered (next + length slots) others
numbered-append next [] others = ap (λ (n : ℕ). numbered n others) (omega (arith))
numbered-append next (slot ∷ slots) others =
    ap (λ (given : Given). (slot, AtSlot next) ∷ given)
    (numbered-append (next + 1) slots others
    ∙ ap (λ (n : ℕ). numbered (next + 1) slots ++ numbered n others) (omega (arith)))

-- parts of which each has its slots have theirs together
both_given : (next : ℕ) (slots others : List Slot) {given later : Given} → given ≡ numbered next slots
    → later ≡ numbered (next + length slots) others → given ++ later ≡ numbered next (slots ++ others)
both_given next slots others {given} {later} first second =
    ap (λ (g : Given). g ++ later) first
    ∙ (ap (λ (g : Given). numbered next slots ++ g) second ∙ sym (numbered-append next slots others))

-- parameters have their slots
params_given : (around : Around) (index : ℕ) (params : List ParamTree)
    → given_params index (resolved_params around AtSlot index params)
    ≡ numbered index (map Parameter (range_with_len index (length params)))
params_given around index [] = refl
params_given around index (param ∷ others) =
    ap (λ (given : Given). (Parameter index, AtSlot index) ∷ given) (params_given around (index + 1) others)

-- a call has its slot, unless its receiver is `this`
call_given : (next index : ℕ) (place : Place) (method : Name) (operands : ExprTrees) (own : Bool)
    → given_side index (CallOf place method operands (cond own None (Some next)))
    ≡ numbered next (cond own [] (Hidden index ∷ []))
call_given next index place method operands true = refl
call_given next index place method operands false = refl

side_given : (scope : Scope) (next index : ℕ) (side : SideTree)
    → given_side index (resolved_side scope next side) ≡ numbered next (side_slots index side)
side_given scope next index (NewOf place mode class_place class arguments) = refl
side_given scope next index (ValueOf place value) = refl
side_given scope next index (SendOf place method operands) = refl
side_given scope next index (GetOf place get_place future) = refl
side_given scope next index (CallOf place method NoExpr slot) = refl
side_given scope next index (CallOf place method (NextExpr receiver arguments) slot) =
    call_given next index place method (resolved_exprs scope (NextExpr receiver arguments)) (is_this receiver)

maybe_side_given : (scope : Scope) (next index : ℕ) (side : MaybeSide)
    → given_maybe_side index (resolved_maybe_side scope next side) ≡ numbered next (maybe_side_slots index side)
maybe_side_given scope next index NoSide = refl
maybe_side_given scope next index (SomeSide side) = side_given scope next index side

mutual
  -- the locals and the calls of a statement have their slots
  statement_given : (scope : Scope) (next : ℕ) (tree : Statement)
      → given_statement (resolved_statement scope next tree) ≡ numbered next (statement_slots tree)
  statement_given scope next (BlockOf place block) = statements_given scope next block
  statement_given scope next (SkipOf index place) = refl
  statement_given scope next (SuspendOf index place) = refl
  statement_given scope next (AwaitOf index place guard) = refl
  statement_given scope next (ReturnOf index place value) = refl
  statement_given scope next (PrintOf index place value) = refl
  statement_given scope next (IfOf index place condition first second) =
      both_given next (statements_slots first) (else_slots second) (statements_given scope next first)
      (else_given scope (next + length (statements_slots first)) second)
  statement_given scope next (WhileOf index place condition body) = statements_given scope next body
  statement_given scope next (DeclareOf index place type variable_place variable initial) =
      both_given next (maybe_side_slots index initial) (Local index ∷ []) (maybe_side_given scope next index initial)
      refl
  statement_given scope next (AssignOf index place target side) = side_given scope next index side
  statement_given scope next (DoOf index place side) = side_given scope next index side

  else_given : (scope : Scope) (next : ℕ) (branch : MaybeStatements)
      → given_else (resolved_else scope next branch) ≡ numbered next (else_slots branch)
  else_given scope next NoElse = refl
  else_given scope next (Else branch) = statements_given scope next branch

  -- so have those of statements
  statements_given : (scope : Scope) (next : ℕ) (trees : Statements)
      → given_statements (resolved_statements scope next trees) ≡ numbered next (statements_slots trees)
  statements_given scope next NoStatement = refl
  statements_given scope next (NextStatement first others) =
      both_given next (statement_slots first) (statements_slots others) (statement_given scope next first)
      (statements_given (statement_scope scope next first) (next + length (statement_slots first)) others)

-- a body has its own slots
body_given : (around : Around) (scope : Scope) (params : List ParamTree) (body : Statements)
    → HasOwnSlots (resolved_params around AtSlot 0 params) (resolved_statements scope (length params) body)
body_given around scope params body =
    let count = length params in
    let after : count ≡ 0 + length (param_slots count) = omega (arith, length-map-range_with_len Parameter 0 count) in
    record {
      in_order = both_given 0 (param_slots count) (statements_slots body) (params_given around 0 params)
          (statements_given scope count body
          ∙ ap (λ (n : ℕ). numbered n (statements_slots body)) after)
          ∙ (ap (λ (n : ℕ). numbered 0 (body_slots n body)) (sym (params_length around AtSlot 0 params))
          ∙ ap (λ (slots : List Slot).
          numbered 0 (param_slots (length (resolved_params around AtSlot 0 params)) ++ slots))
          (sym (statements_kept scope count body)));
    }

-- so has each method of a class
members_given : (around : Around) (fields : Meanings) (earlier : ℕ) (members : List MemberTree)
    → All MemberHasOwnSlots (resolved_members around fields earlier members)
members_given around fields earlier [] = All-nil MemberHasOwnSlots
members_given around fields earlier (FieldTree type name initial ∷ others) =
    All-cons MemberHasOwnSlots _ _ tt (members_given around fields (earlier + 1) others)
members_given around fields earlier (MethodTree signature end body ∷ others) =
    All-cons MemberHasOwnSlots _ _
    (body_given around (body_scope around Method fields signature.params) signature.params body)
    (members_given around fields earlier others)

-- and each body of a declaration
declarations_given : (spaces : NameSpaces) (declarations : List DeclTree)
    → All DeclarationHasOwnSlots (resolved_declarations spaces declarations)
declarations_given spaces [] = All-nil DeclarationHasOwnSlots
declarations_given spaces (DataTree place name type_params constructors ∷ others) =
    All-cons DeclarationHasOwnSlots _ _ tt (declarations_given spaces others)
declarations_given spaces (FunctionTree place result name type_params params value ∷ others) =
    let around = around_of spaces type_params in
    All-cons DeclarationHasOwnSlots _ _
    (body_given around (body_scope around Function [] params) params NoStatement) (declarations_given spaces others)
declarations_given spaces (InterfaceTree place name extended signatures ∷ others) =
    All-cons DeclarationHasOwnSlots _ _ tt (declarations_given spaces others)
declarations_given spaces (ClassTree place name params implemented members ∷ others) =
    All-cons DeclarationHasOwnSlots _ _
    (members_given (around_of spaces []) (class_fields params members) (length params) members)
    (declarations_given spaces others)

-- each body of a source has its own slots
pub all_given : (source : SourceTree) → AllHaveOwnSlots (resolved source)
all_given source =
    let spaces = spaces_of (prelude ++ source.declarations) in
    let around = around_of spaces [] in
    record {
      declarations = declarations_given spaces (prelude ++ source.declarations);
      main = body_given around (body_scope around Main [] []) [] source.main;
    }

-- the slot at an index has the next number but so many
number_at : (next : ℕ) (slots : List Slot) (index : ℕ) (other : Slot × VariableTree) → index < length slots
    → (get_or (numbered next slots) index other).1 ≡ AtSlot (next + index)
number_at next [] index other there = absurd (omega (arith, there))
number_at next (slot ∷ slots) zero other there = ap AtSlot (omega (arith))
number_at next (slot ∷ slots) (suc index) other there =
    number_at (next + 1) slots index other (omega (arith, there)) ∙ ap AtSlot (omega (arith))

-- the number of a slot
abbrev slot_number : VariableTree → ℕ
slot_number (AtSlot slot) = slot
slot_number _ = 0

-- slots at two indexes do not have the same number
pub none_shared : (slots : List Slot) (first second : ℕ) (other : Slot × VariableTree)
    → first < length slots → second < length slots
    → (get_or (numbered 0 slots) first other).1 ≡ (get_or (numbered 0 slots) second other).1 → first ≡ second
none_shared slots first second other there also same =
    let numbers : 0 + first ≡ 0 + second =
    ap slot_number (sym (number_at 0 slots first other there) ∙ (same ∙ number_at 0 slots second other also)) in
    omega (arith, numbers)
