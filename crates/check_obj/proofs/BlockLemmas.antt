-- Statements of which the first ones were checked, each with what was declared before it visible.
--
--   `frame_after_all`          what is around the statement after several
--   `all_after`                the context there
--   `after_other`              the context after a statement that declares nothing
--   `undoes_stays`             what is undone later gives the same slots, if a checker stays
--   `BlockSoFar`               the first statements were checked
--   `is_end`                   whether a statement is the last one of a method's body
--   `block_step`               they were after one more
--   `block_noted`              what was noted after all
--   `block_stays`              a checker stays, if the slots are as before
use Rattle.std.proofs.Common.{◌≡◌, ℕ, ◌+◌, ◌<◌, ◌≤◌, Bool, true, false, ◌&&◌, List, [], ◌∷◌, ◌++◌, All, Option, drop, get_or, length, nat_le, set, take, refl, sym, ap, ap₂, ◌∙◌, subst}
use Rattle.std.proofs.lemmas.List.{drop_all, take_more}
use Rattle.std.proofs.lemmas.List.Elements.{All-head, All-tail}
use Rattle.abs_tree.specs.Syntax.{Name, Statement, BlockOf, SkipOf, SuspendOf, AwaitOf, ReturnOf, PrintOf, IfOf, WhileOf, DeclareOf, AssignOf, DoOf, VariableTree, AtSlot, AtBound, AtField, Unresolved}
use Rattle.abs_tree.specs.SyntaxViews.{statement, statements}
use Rattle.abs_tree.specs.declared.place.Place.{Place}
use Rattle.abs_tree.specs.declared.refusal.Offence.{Offence}
use Rattle.abs_tree.specs.declared.syntax.statement.RightSide.{RightSide}
use Rattle.abs_tree.specs.declared.syntax.statement.Stmt as code_stmt
use Rattle.abs_tree.specs.declared.syntax.statement.Stmt.{Block', If', Stmt, While'}
use Rattle.abs_tree.specs.declared.syntax.types.TypeTerm.{TypeTerm}
use Rattle.abs_tree.specs.declared.syntax.variable.Variable.{Variable}
use Rattle.abs_types.proofs.KeepLemmas.{keeps_transitive}
use Rattle.abs_types.specs.Endings.{are_empty}
use Rattle.abs_types.specs.PlainTypes.{plain, PlainType}
use Rattle.abs_types.specs.StatementOffences.{frame_after, with_variable}
use Rattle.abs_types.specs.TypeTables.{types_in, Keeps}
use Rattle.abs_types.specs.Typing.{Frame}
use Rattle.check_fun.proofs.ContextLemmas.{found_stays, maybe_same, noted_after, noted_same}
use Rattle.check_fun.specs.Contexts.{context_in, with_slots, Context, Found, Knows, Noted, Stays}
use Rattle.check_fun.specs.declared.checker.Checker.{Checker}
use Rattle.check_obj.proofs.EndingLemmas.{is_last_reported}
use Rattle.check_obj.specs.Bodies.{after, statement_offends, statements_offend, unbound}
use Rattle.check_obj.specs.Endings.{IsFilled}
use Rattle.check_obj.specs.Visible.{undone, Undoes}
use Rattle.check_obj.specs.declared.visible.Shown.{Shown}
use Rattle.list_facts.proofs.EntryLemmas.{drop_item}

-- what is around the statement after several
abbrev pub frame_after_all : List Name → Frame → List Stmt → Frame
frame_after_all names frame [] = frame
frame_after_all names frame (first ∷ others) = frame_after_all names (frame_after frame (statement names first)) others

-- the context there
abbrev pub all_after : Context → List Stmt → Context
all_after context stmts = record context { frame = frame_after_all context.names context.frame stmts }

-- what is around the statement after several and one more
frame_after_more : (names : List Name) (frame : Frame) (stmts : List Stmt) (last : Stmt)
    → frame_after_all names frame (stmts ++ last ∷ [])
    ≡ frame_after (frame_after_all names frame stmts) (statement names last)
frame_after_more names frame [] last = refl
frame_after_more names frame (first ∷ others) last =
    frame_after_more names (frame_after frame (statement names first)) others last

-- the context after several and one more
all_after_more : (context : Context) (stmts : List Stmt) (last : Stmt)
    → all_after context (stmts ++ last ∷ []) ≡ after (all_after context stmts) last
all_after_more context stmts last =
    ap (λ (frame : Frame). record context { frame = frame })
    (frame_after_more context.names context.frame stmts last)

-- the context after a statement that declares nothing
pub after_other : (context : Context) (stmt : Stmt)
    → ((index : ℕ) (place : Place) (type : TypeTerm) (variable_place : Place) (variable : Variable)
    (initial : Option RightSide) → stmt ≡ code_stmt.Declare index place type variable_place variable initial → ⊥)
    → after context stmt ≡ context
after_other context (Block' place shape block) other = refl
after_other context (code_stmt.Skip index place) other = refl
after_other context (code_stmt.Suspend index place) other = refl
after_other context (code_stmt.Await index place guard) other = refl
after_other context (code_stmt.Return index place value) other = refl
after_other context (code_stmt.Print index place value) other = refl
after_other context (If' index place condition shape first second) other = refl
after_other context (While' index place condition shape body) other = refl
after_other context (code_stmt.Declare index place type variable_place variable initial) other =
    absurd (other index place type variable_place variable initial refl)
after_other context (code_stmt.Assign index place target side) other = refl
after_other context (code_stmt.Do index place side) other = refl

-- a declaration of a variable changes slots alone
variable_slots : (frame : Frame) (variable : VariableTree) (type : PlainType) (slots : List (Option PlainType))
    → record (with_variable frame variable type) { slots = slots } ≡ record frame { slots = slots }
variable_slots frame (AtSlot slot) type slots = refl
variable_slots frame (AtBound depth) type slots = refl
variable_slots frame (AtField field) type slots = refl
variable_slots frame (Unresolved name) type slots = refl

-- so does a statement
after_slots : (frame : Frame) (stmt : Statement) (slots : List (Option PlainType))
    → record (frame_after frame stmt) { slots = slots } ≡ record frame { slots = slots }
after_slots frame (DeclareOf index place type variable_place variable initial) slots =
    variable_slots frame variable (plain type) slots
after_slots frame (BlockOf place block) slots = refl
after_slots frame (SkipOf index place) slots = refl
after_slots frame (SuspendOf index place) slots = refl
after_slots frame (AwaitOf index place guard) slots = refl
after_slots frame (ReturnOf index place value) slots = refl
after_slots frame (PrintOf index place value) slots = refl
after_slots frame (IfOf index place condition first second) slots = refl
after_slots frame (WhileOf index place condition body) slots = refl
after_slots frame (AssignOf index place target side) slots = refl
after_slots frame (DoOf index place side) slots = refl

-- and several
all_slots : (names : List Name) (frame : Frame) (stmts : List Stmt) (slots : List (Option PlainType))
    → record (frame_after_all names frame stmts) { slots = slots } ≡ record frame { slots = slots }
all_slots names frame [] slots = refl
all_slots names frame (first ∷ others) slots =
    all_slots names (frame_after frame (statement names first)) others slots
    ∙ after_slots frame (statement names first) slots

-- what is undone is the same in a table that grows
undone_kept : {before : Checker} (now : Checker) (shown : List Shown) → Keeps before.table now.table
    → All (λ (one : Shown). Found before one.was) shown → (slots : List (Option PlainType))
    → undone (types_in now.table) shown slots ≡ undone (types_in before.table) shown slots
undone_kept now [] keeps among slots = refl
undone_kept {before} now (first ∷ others) keeps among slots =
    ap₂ (λ (later : List (Option PlainType)) (was : Option PlainType). set later first.slot was)
    (undone_kept now others keeps (All-tail (λ (one : Shown). Found before one.was) first others among) slots)
    (maybe_same first.was keeps (All-head (λ (one : Shown). Found before one.was) first others among).among)

-- what is undone later gives the same slots, if a checker stays
pub undoes_stays : {before now : Checker} {shown : List Shown} {slots : List (Option PlainType)} → Stays before now
    → Undoes before shown slots → Undoes now shown slots
undoes_stays {before} {now} {shown} stays undoes = record {
  among = λ k d less. found_stays stays (undoes.among k d less);
  is = undone_kept now shown stays.keeps undoes.among (context_in now).frame.slots
      ∙ (ap (λ (context : Context). undone (types_in before.table) shown context.frame.slots) stays.context_is
      ∙ undoes.is);
}

-- The first statements were checked. What they declare is visible, and their offences were noted: where those of the
-- others are noted too, those of all are.
pub record BlockSoFar (start : Checker) (is_last : Bool) (stmts : List Stmt) (index : ℕ) (now : Checker)
    (shown : List Shown) : Type 0 where
  pub keeps : Keeps start.table now.table
  pub undoes : Undoes now shown (context_in start).frame.slots
  pub knows : (context : Context) → Knows start context → Knows now (all_after context (take index stmts))
  pub noted : (context : Context) → Knows start (unbound context) → (final : Option Offence)
      → Noted now.first (statements_offend (all_after context (take index stmts)) is_last (drop index stmts)) final
      → Noted start.first (statements_offend context is_last stmts) final

-- whether a statement is the last one of a method's body, where the statements after it are empty blocks
pub is_end : (names : List Name) (stmts : List Stmt) (is_last : Bool) (count index : ℕ)
    → (is_last ≡ true → IsFilled stmts count)
    → (is_last && nat_le count (index + 1)) ≡ (is_last && are_empty (statements names (drop (index + 1) stmts)))
is_end names stmts false count index filled = refl
is_end names stmts true count index filled = is_last_reported names stmts count index (filled refl)

-- the offences of a statement, and of those after it
offences_split : (context : Context) (is_last : Bool) (stmts : List Stmt) (index : ℕ) (one : Stmt)
    → index < length stmts → one ≡ get_or stmts index one
    → statements_offend (all_after context (take index stmts)) is_last (drop index stmts)
    ≡ statement_offends (all_after context (take index stmts))
    (is_last && are_empty (statements context.names (drop (index + 1) stmts))) one
    ++ statements_offend (all_after context (take (index + 1) stmts)) is_last (drop (index + 1) stmts)
offences_split context is_last stmts index one below is =
    let before = all_after context (take index stmts) in
    let later = drop (index + 1) stmts in
    let more : take (index + 1) stmts ≡ take index stmts ++ one ∷ [] =
    take_more stmts index one below ∙ ap (λ (last : Stmt). take index stmts ++ last ∷ []) (sym is) in
    ap (statements_offend before is_last) (drop_item stmts index one below is)
    ∙ ap (λ (next : Context). statement_offends before (is_last && are_empty (statements context.names later)) one
    ++ statements_offend next is_last later)
    (sym (ap (all_after context) more ∙ all_after_more context (take index stmts) one))

-- they were after one more
pub block_step : {start now later : Checker} {is_last flag : Bool} {stmts : List Stmt} {index : ℕ}
    {shown shown_later : List Shown} (one : Stmt) → BlockSoFar start is_last stmts index now shown
    → index < length stmts → one ≡ get_or stmts index one
    → ((names : List Name) → flag ≡ (is_last && are_empty (statements names (drop (index + 1) stmts))))
    → ((context : Context) → Knows now (unbound context)
    → Noted now.first (statement_offends context flag one) later.first)
    → ((context : Context) → Knows now context → Knows later (after context one))
    → ((slots : List (Option PlainType)) → Undoes now shown slots → Undoes later shown_later slots)
    → Keeps now.table later.table → BlockSoFar start is_last stmts (index + 1) later shown_later
block_step {start} {now} {later} {is_last} {flag} {stmts} {index} one so below is reported noted knows undoes keeps =
    let more : take (index + 1) stmts ≡ take index stmts ++ one ∷ [] =
    take_more stmts index one below ∙ ap (λ (last : Stmt). take index stmts ++ last ∷ []) (sym is) in
    record {
      keeps = keeps_transitive so.keeps keeps;
      undoes = undoes (context_in start).frame.slots so.undoes;
      knows = λ context known.
          rw (more, all_after_more) (knows (all_after context (take index stmts)) (so.knows context known));
      noted = λ context known final rest.
          let before = all_after context (take index stmts) in
          let is_end = is_last && are_empty (statements context.names (drop (index + 1) stmts)) in
          let here = subst (λ (last : Bool). Noted now.first (statement_offends before last one) later.first)
          (reported context.names) (noted before (so.knows (unbound context) known)) in
          so.noted context known final
          (subst (λ (offences : List Offence). Noted now.first offences final)
          (sym (offences_split context is_last stmts index one below is))
          (noted_after (statement_offends before is_end one)
          (statements_offend (all_after context (take (index + 1) stmts)) is_last (drop (index + 1) stmts)) here rest));
    }

-- what was noted after all
pub block_noted : {start now : Checker} {is_last : Bool} {stmts : List Stmt} {index : ℕ} {shown : List Shown}
    (final : Option Offence) → BlockSoFar start is_last stmts index now shown → length stmts ≤ index
    → final ≡ now.first → (context : Context) → Knows start (unbound context)
    → Noted start.first (statements_offend context is_last stmts) final
block_noted {now = now} {is_last} {stmts} {index} final so over same context known =
    so.noted context known final
    (subst (λ (rest : List Stmt).
    Noted now.first (statements_offend (all_after context (take index stmts)) is_last rest) final)
    (sym (drop_all index stmts over)) (noted_same same))

-- a checker stays, if the slots are as before
pub block_stays : {start now later : Checker} {is_last : Bool} {stmts : List Stmt} {index : ℕ} {shown : List Shown}
    → BlockSoFar start is_last stmts index now shown
    → ((context : Context) (slots : List (Option PlainType)) → Knows now context → Undoes now shown slots
    → Knows later (with_slots context slots)) → later.table ≡ now.table → Stays start later
block_stays {start} {now} {later} {stmts = stmts} {index} so hidden same =
    let context = context_in start in
    let first = take index stmts in
    let known = hidden (all_after context first) context.frame.slots (so.knows context (record { is = refl }))
    so.undoes in
    record {
      context_is = known.is ∙ ap (λ (frame : Frame). record context { frame = frame })
          (all_slots context.names context.frame first context.frame.slots);
      keeps = subst (Keeps start.table) (sym same) so.keeps;
    }
