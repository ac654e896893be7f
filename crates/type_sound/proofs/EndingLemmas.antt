-- Where control leaves a body. In a body whose result type is not `Unit` it comes to the end from a `return` alone, and
-- such a body has a statement to begin with.
--
--   `ends_by_return`       a body that control leaves from another statement than `return` has the result type `Unit`
--   `begins_or_unit`       so has a body without a statement to begin with
use Rattle.std.proofs.Common.{◌≡◌, ◌≢◌, ◌<◌, ◌⊎◌, inl, inr, ⊎_elim, ℕ, zero, suc, ◌+◌, ◌-◌, Bool, true, false, true≢false, if◌then◌else◌, Option, Some, None, refl, sym, ap, ◌∙◌, arith, slice_get}
use Rattle.std.proofs.lemmas.Bool.{and_from, and_parts}
use Rattle.std.proofs.lemmas.Option.{none-some, same_Some}
use Rattle.abs_profile.specs.Accepted.{IsAcceptedProgram}
use Rattle.abs_program.proofs.ProgramPointLemmas.{points_of_body}
use Rattle.abs_program.specs.Control.{Point, entry, entry_of, else_entry, points, points_of, else_points, program_points}
use Rattle.abs_program.specs.Instructions.{Returns, effect_of}
use Rattle.abs_program.specs.ProgramBodies.{BodyAt, entry_of_body, IsStatementOf}
use Rattle.abs_tree.specs.Syntax.{Name, Statement, BlockOf, SkipOf, SuspendOf, AwaitOf, ReturnOf, PrintOf, IfOf, WhileOf, DeclareOf, AssignOf, DoOf, MaybeStatements, NoElse, Else, Statements, NoStatement, NextStatement, ProgramTree}
use Rattle.abs_tree.specs.SyntaxSizes.{count_of, statement_count}
use Rattle.abs_types.specs.Endings.{is_empty, are_empty, returns, ends_with_return}
use Rattle.abs_types.specs.OperatorTypes.{unit_type}
use Rattle.config_state.specs.Configurations.{ObjectState}
use Rattle.list_facts.proofs.EntryLemmas.{slice_get-append}
use Rattle.step_rules.specs.Lookups.{successor}
use Rattle.type_sound.proofs.RoutineLemmas.{IsRoutine, routine_is}
use Rattle.type_sound.specs.Routines.{Routine, routine_found}

mutual
  unfolding entry

  -- if control finds no statement, there is none in these, and none after them
  no_entry : (index : ℕ) (statements : Statements) (after : Option ℕ) → entry index statements after ≡ None
      → (after ≡ None) × (are_empty statements ≡ true)
  no_entry index NoStatement after none = (none, refl)
  no_entry index (NextStatement first others) after none =
      let next = index + count_of first in
      let own = no_entry_of index first (entry next others after) none in
      let later = no_entry next others after own.0 in
      (later.0, and_from (is_empty first) (are_empty others) own.1 later.1)

  -- so it is of one statement
  no_entry_of : (index : ℕ) (statement : Statement) (after : Option ℕ) → entry_of index statement after ≡ None
      → (after ≡ None) × (is_empty statement ≡ true)
  no_entry_of index (BlockOf place block) after none = no_entry index block after none
  no_entry_of index (SkipOf own place) after none = absurd (none-some index (sym none))
  no_entry_of index (SuspendOf own place) after none = absurd (none-some index (sym none))
  no_entry_of index (AwaitOf own place guard) after none = absurd (none-some index (sym none))
  no_entry_of index (ReturnOf own place value) after none = absurd (none-some index (sym none))
  no_entry_of index (PrintOf own place value) after none = absurd (none-some index (sym none))
  no_entry_of index (IfOf own place condition first second) after none = absurd (none-some index (sym none))
  no_entry_of index (WhileOf own place condition body) after none = absurd (none-some index (sym none))
  no_entry_of index (DeclareOf own place type variable_place variable initial) after none =
      absurd (none-some index (sym none))
  no_entry_of index (AssignOf own place target side) after none = absurd (none-some index (sym none))
  no_entry_of index (DoOf own place side) after none = absurd (none-some index (sym none))

-- and of the other branch of an `if`
no_else_entry : (index : ℕ) (branch : MaybeStatements) (after : Option ℕ) → else_entry index branch after ≡ None
    → after ≡ None
no_else_entry index NoElse after none = none
no_else_entry index (Else branch) after none = (no_entry index branch after none).0

mutual
  unfolding points

  -- if control finds no statement after one of these, there is none after them
  last_of : (index : ℕ) (statements : Statements) (after : Option ℕ) (place : ℕ) (point : Point) (answer : Bool)
      → slice_get (points index statements after) place ≡ Some point → successor point.goes answer ≡ None
      → after ≡ None
  last_of index NoStatement after place point answer is stops = absurd (none-some point is)
  last_of index (NextStatement first others) after place point answer is stops =
      let next = index + count_of first in
      let before = entry next others after in
      ⊎_elim (λ own. (no_entry next others after (last_of_one index first before place point answer own stops)).0)
      (λ later. last_of next others after later.0 point answer later.1 stops)
      (slice_get-append (points_of index first before) (points next others after) place point is)

  -- so it is of one statement and those in it
  last_of_one : (index : ℕ) (statement : Statement) (after : Option ℕ) (place : ℕ) (point : Point) (answer : Bool)
      → slice_get (points_of index statement after) place ≡ Some point → successor point.goes answer ≡ None
      → after ≡ None
  last_of_one index (BlockOf at block) after place point answer is stops =
      last_of index block after place point answer is stops
  last_of_one index (IfOf own at condition first second) after zero point true is stops =
      let same = same_Some _ point is in
      (no_entry (index + 1) first after
      (ap (λ (one : Point). successor one.goes true) same ∙ stops)).0
  last_of_one index (IfOf own at condition first second) after zero point false is stops =
      let same = same_Some _ point is in
      no_else_entry (index + 1 + statement_count first) second after
      (ap (λ (one : Point). successor one.goes false) same ∙ stops)
  last_of_one index (IfOf own at condition first second) after (suc place) point answer is stops =
      let next = index + 1 + statement_count first in
      ⊎_elim (λ early. last_of (index + 1) first after place point answer early stops)
      (λ later. last_of_else next second after later.0 point answer later.1 stops)
      (slice_get-append (points (index + 1) first after) (else_points next second after) place point is)
  last_of_one index (WhileOf own at condition body) after zero point true is stops =
      let same = same_Some _ point is in
      absurd (none-some index (sym (no_entry (index + 1) body (Some index)
      (ap (λ (one : Point). successor one.goes true) same ∙ stops)).0))
  last_of_one index (WhileOf own at condition body) after zero point false is stops =
      ap (λ (one : Point). successor one.goes false) (same_Some _ point is) ∙ stops
  last_of_one index (WhileOf own at condition body) after (suc place) point answer is stops =
      absurd (none-some index (sym (last_of (index + 1) body (Some index) place point answer is stops)))
  last_of_one index statement after zero point answer is stops =
      ap (λ (one : Point). successor one.goes answer) (same_Some _ point is) ∙ stops
  last_of_one index statement after (suc place) point answer is stops = absurd (none-some point is)

  -- and of the other branch of an `if`
  last_of_else : (index : ℕ) (branch : MaybeStatements) (after : Option ℕ) (place : ℕ) (point : Point) (answer : Bool)
      → slice_get (else_points index branch after) place ≡ Some point → successor point.goes answer ≡ None
      → after ≡ None
  last_of_else index NoElse after place point answer is stops = absurd (none-some point is)
  last_of_else index (Else branch) after place point answer is stops =
      last_of index branch after place point answer is stops

mutual
  unfolding points

  -- empty statements have no point
  empty_without : (index : ℕ) (statements : Statements) (after : Option ℕ) (place : ℕ) (point : Point)
      → are_empty statements ≡ true → slice_get (points index statements after) place ≡ Some point → ⊥
  empty_without index NoStatement after place point empty is = none-some point is
  empty_without index (NextStatement first others) after place point empty is =
      let next = index + count_of first in
      let before = entry next others after in
      let both = and_parts (is_empty first) (are_empty others) empty in
      ⊎_elim (λ own. empty_without_one index first before place point both.0 own)
      (λ later. empty_without next others after later.0 point both.1 later.1)
      (slice_get-append (points_of index first before) (points next others after) place point is)

  -- an empty block has none
  empty_without_one : (index : ℕ) (statement : Statement) (after : Option ℕ) (place : ℕ) (point : Point)
      → is_empty statement ≡ true → slice_get (points_of index statement after) place ≡ Some point → ⊥
  empty_without_one index (BlockOf at block) after place point empty is =
      empty_without index block after place point empty is
  empty_without_one index statement after place point empty is = true≢false (sym empty)

-- a point is that of a `return`
abbrev IsReturn : Point → Type 0
IsReturn point = effect_of point.statement ≡ Returns

-- of statements that end with `return`, the first one or the others do; past the `return` there is none
next_returns : (index : ℕ) (first : Statement) (others : Statements) (after : Option ℕ) (place : ℕ) (point : Point)
    (answer : Bool)
    → (returns first ≡ true
    → slice_get (points_of index first (entry (index + count_of first) others after)) place ≡ Some point
    → IsReturn point)
    → ((later : ℕ) → ends_with_return others ≡ true
    → slice_get (points (index + count_of first) others after) later ≡ Some point → IsReturn point)
    → (empty : Bool) → are_empty others ≡ empty
    → (if empty then returns first else ends_with_return others) ≡ true → successor point.goes answer ≡ None
    → (slice_get (points_of index first (entry (index + count_of first) others after)) place ≡ Some point)
    ⊎ ((later : ℕ) × (slice_get (points (index + count_of first) others after) later ≡ Some point))
    → IsReturn point
next_returns index first others after place point answer one more true is_empty ends stops (inl own) = one ends own
next_returns index first others after place point answer one more true is_empty ends stops (inr later) =
    absurd (empty_without (index + count_of first) others after later.0 point is_empty later.1)
next_returns index first others after place point answer one more false is_empty ends stops (inl own) =
    let none = last_of_one index first (entry (index + count_of first) others after) place point answer own stops in
    absurd (true≢false (sym (no_entry (index + count_of first) others after none).1 ∙ is_empty))
next_returns index first others after place point answer one more false is_empty ends stops (inr later) =
    more later.0 ends later.1

mutual
  unfolding points

  -- where statements end with `return`, control finds no statement after a `return` alone
  statements_return : (index : ℕ) (statements : Statements) (after : Option ℕ) (place : ℕ) (point : Point)
      (answer : Bool) → ends_with_return statements ≡ true
      → slice_get (points index statements after) place ≡ Some point → successor point.goes answer ≡ None
      → IsReturn point
  statements_return index NoStatement after place point answer ends is stops = absurd (none-some point is)
  statements_return index (NextStatement first others) after place point answer ends is stops =
      let next = index + count_of first in
      let before = entry next others after in
      next_returns index first others after place point answer
      (λ returns_it own. statement_returns index first before place point answer returns_it own stops)
      (λ later ends_it own. statements_return next others after later point answer ends_it own stops)
      (are_empty others) refl ends stops
      (slice_get-append (points_of index first before) (points next others after) place point is)

  -- so it is in a block that ends with it
  statement_returns : (index : ℕ) (statement : Statement) (after : Option ℕ) (place : ℕ) (point : Point)
      (answer : Bool) → returns statement ≡ true → slice_get (points_of index statement after) place ≡ Some point
      → successor point.goes answer ≡ None → IsReturn point
  statement_returns index (BlockOf at block) after place point answer returns_it is stops =
      statements_return index block after place point answer returns_it is stops
  statement_returns index (ReturnOf own at value) after zero point answer returns_it is stops =
      ap (λ (one : Point). effect_of one.statement) (sym (same_Some _ point is))
  statement_returns index (ReturnOf own at value) after (suc place) point answer returns_it is stops =
      absurd (none-some point is)
  statement_returns index statement after place point answer returns_it is stops =
      absurd (true≢false (sym returns_it))

-- In a body whose result type is not `Unit` control comes to the end from a `return` alone.
pub ends_by_return : (program : ProgramTree) → IsAcceptedProgram program → (object : Option ObjectState)
    (method : Option Name) (routine : Routine) (statement : ℕ) (point : Point) (answer : Bool)
    → routine_found program object method ≡ Some routine → IsStatementOf routine.body statement
    → slice_get (program_points program.source) statement ≡ Some point → successor point.goes answer ≡ None
    → effect_of point.statement ≢ Returns → routine.result ≡ unit_type
ends_by_return program accepted object method routine statement point answer found of there stops other =
    ⊎_elim (λ unit. unit)
    (λ ends. absurd (other (statements_return body.index body.statements None place point answer ends own stops)))
    is.ends
  where
    body : BodyAt
    body = routine.body

    is : IsRoutine program routine
    is = routine_is program accepted object method routine found

    place : ℕ
    place = statement - body.index

    own : slice_get (points body.index body.statements None) place ≡ Some point
    own =
        let at : body.index + place ≡ statement = omega (arith, of.after_start) in
        let within : place < statement_count body.statements = omega (arith, of.after_start, of.before_end) in
        sym (points_of_body program.source body place is.body_is within)
        ∙ (ap (slice_get (program_points program.source)) at ∙ there)

mutual
  -- empty statements do not end with `return`
  empty_ends : (statements : Statements) → are_empty statements ≡ true → ends_with_return statements ≡ false
  empty_ends NoStatement empty = refl
  empty_ends (NextStatement first others) empty =
      let both = and_parts (is_empty first) (are_empty others) empty in
      ap (λ (is_last : Bool). if is_last then returns first else ends_with_return others) both.1
      ∙ empty_returns first both.0

  -- and an empty block does not
  empty_returns : (statement : Statement) → is_empty statement ≡ true → returns statement ≡ false
  empty_returns (BlockOf place block) empty = empty_ends block empty
  empty_returns statement empty = absurd (true≢false (sym empty))

-- A body without a statement to begin with has the result type `Unit`.
pub begins_or_unit : (program : ProgramTree) → IsAcceptedProgram program → (object : Option ObjectState)
    (method : Option Name) (routine : Routine) → routine_found program object method ≡ Some routine
    → (entry_of_body routine.body).first ≡ None → routine.result ≡ unit_type
begins_or_unit program accepted object method routine found none =
    let body = routine.body in
    let empty = no_entry body.index body.statements None none in
    ⊎_elim (λ unit. unit) (λ ends. absurd (true≢false (sym ends ∙ empty_ends body.statements empty.1)))
    (routine_is program accepted object method routine found).ends
