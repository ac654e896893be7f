-- Where statements have no name offence, what they name is there once they are resolved.
use Rattle.std.proofs.Common.{◌≡◌, ℕ, ◌+◌, ◌<◌, ◌≤◌, Bool, true, false, List, [], ◌∷◌, ◌++◌, refl, sym, length, length-append, cond, arith}
use Rattle.std.specs.Prelude.{Option, Some, None, option_map}
use Rattle.std.proofs.lemmas.Bool.{true≢false}
use Rattle.abs_program.specs.NameSpaces.{NameSpaces}
use Rattle.abs_program.specs.Slots.{is_this, side_slots, maybe_side_slots, statement_slots, else_slots, statements_slots}
use Rattle.abs_tree.specs.Syntax.{Name, VariableTree, Unresolved, AtSlot, AtBound, AtField, ExprTrees, NoExpr, NextExpr, SideTree, NewOf, ValueOf, SendOf, GetOf, CallOf, Tests, NoTest, NextTest, TargetTree, ToVariable, ToField, MaybeSide, NoSide, SomeSide, Statement, BlockOf, SkipOf, SuspendOf, AwaitOf, ReturnOf, PrintOf, IfOf, WhileOf, DeclareOf, AssignOf, DoOf, MaybeStatements, NoElse, Else, Statements, NoStatement, NextStatement}
use Rattle.abs_tree.specs.SyntaxCounts.{count_exprs}
use Rattle.abs_program.specs.Tables.{meaning_of}
use Rattle.abs_program.specs.Whole.{Inside, VariableIsThere, HiddenIsThere, SideIsThere, MaybeSideIsThere, TestsAreThere, TargetIsThere, StatementIsThere, ElseIsThere, StatementsAreThere}
use Rattle.abs_program.specs.declared.name_spaces.Taking.{Taking}
use Rattle.abs_tree.specs.declared.place.Place.{Place}
use Rattle.abs_tree.specs.declared.syntax.slot.Slot.{Slot}
use Rattle.abs_tree.specs.declared.syntax.slot.Slot.TheVariants.{Local, Hidden}
use Rattle.abs_names.specs.NameOffences.{expr_offences, exprs_offences, side_offences, maybe_side_offences, tests_offences, target_offences, local_offences, statement_offences, else_offences, statements_offences}
use Rattle.abs_names.specs.Resolution.{field_target, hidden_slot, resolved_side, resolved_maybe_side, resolved_tests, resolved_target, resolved_statement, resolved_else, resolved_statements}
use Rattle.abs_names.specs.Scopes.{Scope, field_of, with_variable, statement_scope}
use Rattle.abs_names.specs.TypeNames.{applied, class_taking, type_offences}
use Rattle.abs_names.proofs.ThereExpressionLemmas.{exprs_kept, taking_kept, expr_there, exprs_there}
use Rattle.abs_names.proofs.ThereScopeLemmas.{Agrees, newest_or, use_there, FieldKnown, field_known}
use Rattle.abs_names.proofs.ThereTypeLemmas.{type_there}
use Rattle.list_facts.proofs.AppendLemmas.{both_empty}

-- the slot of the result of a call is one of those of the body
own_slot_there : (inside : Inside) (next index : ℕ) (own : Bool)
    → next + length (cond own [] (Hidden index ∷ [])) ≤ inside.slots
    → HiddenIsThere inside (cond own None (Some next))
own_slot_there inside next index true fits = tt
own_slot_there inside next index false fits = omega (arith, fits)

hidden_there : (inside : Inside) (next index : ℕ) (place : Place) (method : Name) (operands : ExprTrees) (slot : Option ℕ)
    → next + length (side_slots index (CallOf place method operands slot)) ≤ inside.slots
    → HiddenIsThere inside (hidden_slot next operands)
hidden_there inside next index place method NoExpr slot fits = tt
hidden_there inside next index place method (NextExpr receiver arguments) slot fits =
    own_slot_there inside next index (is_this receiver) fits

-- a right side without a name offence, where its slot is one of those of the body
side_there : (inside : Inside) (scope : Scope) (next index : ℕ) (side : SideTree) → Agrees inside 0 scope
    → side_offences scope side ≡ [] → next + length (side_slots index side) ≤ inside.slots
    → SideIsThere inside (resolved_side scope next side)
side_there inside scope next index (NewOf place mode class_place class arguments) agrees none fits =
    let parts = both_empty (applied (class_taking scope.around class) (count_exprs arguments) class_place)
    (exprs_offences scope arguments) none in (
      taking_kept (λ (spaces : NameSpaces). option_map (λ (c : Taking). c.arity) (meaning_of spaces.classes class))
          class_place agrees.around.spaces (exprs_kept scope arguments) parts.0,
      exprs_there inside 0 scope arguments agrees parts.1,
    )
side_there inside scope next index (ValueOf place value) agrees none fits =
    expr_there inside 0 scope value agrees none
side_there inside scope next index (SendOf place method operands) agrees none fits =
    exprs_there inside 0 scope operands agrees none
side_there inside scope next index (GetOf place get_place future) agrees none fits =
    expr_there inside 0 scope future agrees none
side_there inside scope next index (CallOf place method operands slot) agrees none fits =
    (exprs_there inside 0 scope operands agrees none, hidden_there inside next index place method operands slot fits)

maybe_side_there : (inside : Inside) (scope : Scope) (next index : ℕ) (side : MaybeSide) → Agrees inside 0 scope
    → maybe_side_offences scope side ≡ [] → next + length (maybe_side_slots index side) ≤ inside.slots
    → MaybeSideIsThere inside (resolved_maybe_side scope next side)
maybe_side_there inside scope next index NoSide agrees none fits = tt
maybe_side_there inside scope next index (SomeSide side) agrees none fits =
    side_there inside scope next index side agrees none fits

-- a guard without one
tests_there : (inside : Inside) (scope : Scope) (tests : Tests) → Agrees inside 0 scope
    → tests_offences scope tests ≡ [] → TestsAreThere inside (resolved_tests scope tests)
tests_there inside scope NoTest agrees none = tt
tests_there inside scope (NextTest place value asks others) agrees none =
    let parts = both_empty (expr_offences scope value) (tests_offences scope others) none in
    (expr_there inside 0 scope value agrees parts.0, tests_there inside scope others agrees parts.1)

-- a target without one
field_target_there : (inside : Inside) (place name_place : Place) (name : Name) (found : Option VariableTree)
    → FieldKnown inside found → TargetIsThere inside (field_target place name_place name found)
field_target_there inside place name_place name (Some field) known = known.there field refl
field_target_there inside place name_place name None known = absurd (true≢false (sym known.known))

target_there : (inside : Inside) (scope : Scope) (target : TargetTree) → Agrees inside 0 scope
    → target_offences scope target ≡ [] → TargetIsThere inside (resolved_target scope target)
target_there inside scope (ToVariable place variable) agrees none = use_there inside 0 scope place variable agrees none
target_there inside scope (ToField place name_place name) agrees none =
    field_target_there inside place name_place name (field_of scope name)
    (field_known inside 0 scope place name_place name agrees none)

-- the scope after a local is declared, whose slot is one of those of the body
local_agrees : (inside : Inside) (scope : Scope) (variable : VariableTree) (slot : ℕ) → Agrees inside 0 scope
    → slot < inside.slots → Agrees inside 0 (with_variable scope variable (AtSlot slot))
local_agrees inside scope (Unresolved name) slot agrees there = record {
  around = agrees.around;
  this = agrees.this;
  task = agrees.task;
  count = agrees.count;
  variables = λ other variable. newest_or (VariableIsThere inside 0) scope.variables name other (AtSlot slot) variable
      there (agrees.variables other variable);
  fields = agrees.fields;
  seen = agrees.seen;
}
local_agrees inside scope (AtSlot other) slot agrees there = agrees
local_agrees inside scope (AtBound depth) slot agrees there = agrees
local_agrees inside scope (AtField field) slot agrees there = agrees

-- the slot of a local comes after that of the call of its statement
local_fits : (next index : ℕ) (initial : MaybeSide) (limit : ℕ)
    → next + length (maybe_side_slots index initial ++ Local index ∷ []) ≤ limit
    → next + length (maybe_side_slots index initial) < limit
local_fits next index initial limit fits =
    let long = length-append (maybe_side_slots index initial) (Local index ∷ []) in
    omega (arith, long, fits)

-- the scope after a statement whose slots are among those of the body
statement_agrees : (inside : Inside) (scope : Scope) (next : ℕ) (tree : Statement) → Agrees inside 0 scope
    → next + length (statement_slots tree) ≤ inside.slots → Agrees inside 0 (statement_scope scope next tree)
statement_agrees inside scope next (DeclareOf index place type variable_place variable initial) agrees fits =
    local_agrees inside scope variable (next + length (maybe_side_slots index initial)) agrees
    (local_fits next index initial inside.slots fits)
statement_agrees inside scope next (BlockOf place block) agrees fits = agrees
statement_agrees inside scope next (SkipOf index place) agrees fits = agrees
statement_agrees inside scope next (SuspendOf index place) agrees fits = agrees
statement_agrees inside scope next (AwaitOf index place guard) agrees fits = agrees
statement_agrees inside scope next (ReturnOf index place value) agrees fits = agrees
statement_agrees inside scope next (PrintOf index place value) agrees fits = agrees
statement_agrees inside scope next (IfOf index place condition first second) agrees fits = agrees
statement_agrees inside scope next (WhileOf index place condition body) agrees fits = agrees
statement_agrees inside scope next (AssignOf index place target side) agrees fits = agrees
statement_agrees inside scope next (DoOf index place side) agrees fits = agrees

-- the slots of parts that come one after the other
first_fits : (next limit : ℕ) (first others : List Slot) → next + length (first ++ others) ≤ limit
    → next + length first ≤ limit
first_fits next limit first others fits =
    let long = length-append first others in
    omega (arith, long, fits)

others_fit : (next limit : ℕ) (first others : List Slot) → next + length (first ++ others) ≤ limit
    → next + length first + length others ≤ limit
others_fit next limit first others fits =
    let long = length-append first others in
    omega (arith, long, fits)

mutual
  -- a statement without a name offence, where its slots are among those of the body
  pub statement_there : (inside : Inside) (scope : Scope) (next : ℕ) (tree : Statement) → Agrees inside 0 scope
      → statement_offences scope next tree ≡ [] → next + length (statement_slots tree) ≤ inside.slots
      → StatementIsThere inside (resolved_statement scope next tree)
  statement_there inside scope next (BlockOf place block) agrees none fits =
      statements_there inside scope next block agrees none fits
  statement_there inside scope next (SkipOf index place) agrees none fits = tt
  statement_there inside scope next (SuspendOf index place) agrees none fits = tt
  statement_there inside scope next (AwaitOf index place guard) agrees none fits =
      tests_there inside scope guard agrees none
  statement_there inside scope next (ReturnOf index place value) agrees none fits =
      expr_there inside 0 scope value agrees none
  statement_there inside scope next (PrintOf index place value) agrees none fits =
      expr_there inside 0 scope value agrees none
  statement_there inside scope next (IfOf index place condition first second) agrees none fits =
      let slots = statements_slots first in
      let after = next + length slots in
      let parts = both_empty (expr_offences scope condition)
      (statements_offences scope next first ++ else_offences scope after second) none in
      let later = both_empty (statements_offences scope next first) (else_offences scope after second) parts.1 in (
        expr_there inside 0 scope condition agrees parts.0,
        statements_there inside scope next first agrees later.0
            (first_fits next inside.slots slots (else_slots second) fits),
        else_there inside scope after second agrees later.1
            (others_fit next inside.slots slots (else_slots second) fits),
      )
  statement_there inside scope next (WhileOf index place condition body) agrees none fits =
      let parts = both_empty (expr_offences scope condition) (statements_offences scope next body) none in (
        expr_there inside 0 scope condition agrees parts.0,
        statements_there inside scope next body agrees parts.1 fits,
      )
  statement_there inside scope next (DeclareOf index place type variable_place variable initial) agrees none fits =
      let parts = both_empty (type_offences scope.around type)
      (maybe_side_offences scope initial ++ local_offences scope variable_place variable) none in
      let later = both_empty (maybe_side_offences scope initial) (local_offences scope variable_place variable)
      parts.1 in (
        type_there inside scope.around type agrees.around parts.0,
        local_fits next index initial inside.slots fits,
        maybe_side_there inside scope next index initial agrees later.0
            (first_fits next inside.slots (maybe_side_slots index initial) (Local index ∷ []) fits),
      )
  statement_there inside scope next (AssignOf index place target side) agrees none fits =
      let parts = both_empty (target_offences scope target) (side_offences scope side) none in
      (target_there inside scope target agrees parts.0, side_there inside scope next index side agrees parts.1 fits)
  statement_there inside scope next (DoOf index place side) agrees none fits =
      side_there inside scope next index side agrees none fits

  else_there : (inside : Inside) (scope : Scope) (next : ℕ) (branch : MaybeStatements) → Agrees inside 0 scope
      → else_offences scope next branch ≡ [] → next + length (else_slots branch) ≤ inside.slots
      → ElseIsThere inside (resolved_else scope next branch)
  else_there inside scope next NoElse agrees none fits = tt
  else_there inside scope next (Else branch) agrees none fits =
      statements_there inside scope next branch agrees none fits

  -- statements without one
  pub statements_there : (inside : Inside) (scope : Scope) (next : ℕ) (trees : Statements) → Agrees inside 0 scope
      → statements_offences scope next trees ≡ [] → next + length (statements_slots trees) ≤ inside.slots
      → StatementsAreThere inside (resolved_statements scope next trees)
  statements_there inside scope next NoStatement agrees none fits = tt
  statements_there inside scope next (NextStatement first others) agrees none fits =
      let slots = statement_slots first in
      let after = next + length slots in
      let later = statement_scope scope next first in
      let parts = both_empty (statement_offences scope next first) (statements_offences later after others) none in
      let fits_first = first_fits next inside.slots slots (statements_slots others) fits in (
        statement_there inside scope next first agrees parts.0 fits_first,
        statements_there inside later after others (statement_agrees inside scope next first agrees fits_first) parts.1
            (others_fit next inside.slots slots (statements_slots others) fits),
      )
