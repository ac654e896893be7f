-- Statements of which a prefix was resolved, each in the scope and from the slot after the ones before it.
use Rattle.std.proofs.Common.{◌≡◌, ℕ, ◌+◌, ◌<◌, ◌≤◌, List, [], ◌∷◌, ◌++◌, refl, sym, ap, ◌∙◌, subst, length, get_or, drop, fold, append_assoc}
use Rattle.std.specs.Prelude.{Option}
use Rattle.std.proofs.lemmas.List.{length-append, append-nil, drop_all}
use Rattle.abs_tree.specs.Offences.{earlier}
use Rattle.abs_program.specs.Slots.{statement_slots, statements_slots}
use Rattle.abs_tree.specs.Syntax.{Statement, BlockOf, SkipOf, SuspendOf, AwaitOf, ReturnOf, PrintOf, IfOf, WhileOf, DeclareOf, AssignOf, DoOf, Statements, NoStatement, NextStatement}
use Rattle.abs_tree.specs.SyntaxViews.{statement, statements}
use Rattle.abs_tree.specs.declared.refusal.Offence.{Offence}
use Rattle.abs_tree.specs.declared.syntax.slot.Slot.{Slot}
use Rattle.abs_tree.specs.declared.syntax.statement.Stmt.{Stmt}
use Rattle.abs_names.specs.NameOffences.{statement_offences, statements_offences}
use Rattle.abs_names.specs.Resolution.{resolved_statement, resolved_statements}
use Rattle.abs_names.specs.Scopes.{Scope, statement_scope, local_slot}
use Rattle.abs_names.specs.Visible.{Names, Visible}
use Rattle.abs_names.proofs.LeaveLemmas.{Within, within_itself, within_both, within_variable}
use Rattle.abs_names.proofs.LoopLemmas.{SoFar, one_more, Done, all_done}
use Rattle.list_facts.proofs.EntryLemmas.{drop_item}
use Rattle.abs_tree.proofs.TreeLemmas.{statements_before, statements_more, statements_all}

-- a scope, and the first free slot
abbrev pub Spot : Type 0
Spot = Scope × ℕ

-- the resolved statements from a spot on, their offences, and the spot after them
abbrev pub made_from : Spot → Statements → Statements
made_from spot trees = resolved_statements spot.0 spot.1 trees

abbrev pub met_from : Spot → Statements → List Offence
met_from spot trees = statements_offences spot.0 spot.1 trees

abbrev pub spot_after : Spot → Statements → Spot
spot_after spot NoStatement = spot
spot_after spot (NextStatement first others) =
    spot_after (statement_scope spot.0 spot.1 first, spot.1 + length (statement_slots first)) others

-- a statement leaves what was visible before it
pub within_statement : (scope : Scope) (next : ℕ) (tree : Statement) → Within scope (statement_scope scope next tree)
within_statement scope next (DeclareOf index place type variable_place variable initial) =
    within_variable scope variable (local_slot next index initial)
within_statement scope next (BlockOf place block) = within_itself scope
within_statement scope next (SkipOf index place) = within_itself scope
within_statement scope next (SuspendOf index place) = within_itself scope
within_statement scope next (AwaitOf index place guard) = within_itself scope
within_statement scope next (ReturnOf index place value) = within_itself scope
within_statement scope next (PrintOf index place value) = within_itself scope
within_statement scope next (IfOf index place condition first second) = within_itself scope
within_statement scope next (WhileOf index place condition body) = within_itself scope
within_statement scope next (AssignOf index place target side) = within_itself scope
within_statement scope next (DoOf index place side) = within_itself scope

-- The statements before an index were resolved, from a scope and some slots on; these are the scope, the slots and the
-- first offence now.
pub record BlockSoFar (start : Visible) (first : Option Offence) (slots : List Slot) (stmts : List Stmt) (index : ℕ)
    (found : List Stmt) (now : Visible) (noted : Option Offence) (slots_now : List Slot) : Type 0 where
  pub names_are : now.names ≡ start.names
  pub within : Within start.scope now.scope
  pub slots_are : slots_now ++ statements_slots (statements start.names.before (drop index stmts))
      ≡ slots ++ statements_slots (statements start.names.before stmts)
  pub so_far : SoFar (statements start.names.before) (statements_before start.names.after) made_from met_from spot_after
      (start.scope, length slots) first stmts index found (now.scope, length slots_now) noted

-- one more statement was resolved
pub block_step : {start : Visible} {first : Option Offence} {slots : List Slot} {stmts : List Stmt} {index : ℕ}
    {found : List Stmt} {now after : Visible} {noted after_noted : Option Offence} {slots_now slots_after : List Slot}
    {all : List Stmt} (item one : Stmt)
    → BlockSoFar start first slots stmts index found now noted slots_now → index < length stmts
    → item ≡ get_or stmts index item
    → statement now.names.after one ≡ resolved_statement now.scope (length slots_now) (statement now.names.before item)
    → after_noted
    ≡ fold earlier noted (statement_offences now.scope (length slots_now) (statement now.names.before item))
    → slots_after ≡ slots_now ++ statement_slots (statement now.names.before item)
    → after.names ≡ now.names
    → after.scope ≡ statement_scope now.scope (length slots_now) (statement now.names.before item)
    → all ≡ found ++ one ∷ [] → BlockSoFar start first slots stmts (index + 1) all after after_noted slots_after
block_step {start} {first} {slots} {stmts} {index} {found} {now} {after} {noted} {after_noted} {slots_now}
    {slots_after} {all} item one h there is make note grow same move added =
    let names = start.names in
    let tree = statement names.before item in
    let next = length slots_now in
    let made = subst (λ (ns : Names). statement ns.after one ≡ resolved_statement now.scope next
    (statement ns.before item)) h.names_are make in
    let met = subst (λ (ns : Names).
    after_noted ≡ fold earlier noted (statement_offences now.scope next (statement ns.before item))) h.names_are note in
    let grown = subst (λ (ns : Names). slots_after ≡ slots_now ++ statement_slots
    (statement ns.before item)) h.names_are grow in
    let moved = subst (λ (ns : Names). after.scope ≡ statement_scope now.scope next
    (statement ns.before item)) h.names_are move in
    let longer : length slots_after ≡ next + length (statement_slots tree) =
    ap length grown ∙ length-append slots_now (statement_slots tree) in
    let later : Spot = (statement_scope now.scope next tree, next + length (statement_slots tree)) in
    let spot : (after.scope, length slots_after) ≡ later =
    ap (λ (s : Scope). (s, length slots_after)) moved
    ∙ ap (λ (n : ℕ). (statement_scope now.scope next tree, n)) longer in
    let rest = drop (index + 1) stmts in
    record {
      names_are = same ∙ h.names_are;
      within = within_both h.within
          (subst (Within now.scope) (sym moved) (within_statement now.scope next tree));
      slots_are = ap (λ (xs : List Slot). xs ++ statements_slots (statements names.before rest)) grown
          ∙ (append_assoc slots_now (statement_slots tree) (statements_slots (statements names.before rest))
          ∙ (ap (λ (xs : List Stmt). slots_now ++ statements_slots (statements names.before xs))
          (sym (drop_item stmts index item there is))
          ∙ h.slots_are));
      so_far = one_more all (after.scope, length slots_after) after_noted item
          (NextStatement (statement names.after one)) (statement_offences now.scope next tree) h.so_far there is
          (λ others. ap (λ (t : Statement). NextStatement t
          (made_from later (statements names.before others))) (sym made)
          ∙ ap (λ (s : Spot). NextStatement (statement names.after one)
          (made_from s (statements names.before others))) (sym spot))
          (λ others. ap (λ (s : Spot).
          statement_offences now.scope next tree ++ met_from s (statements names.before others)) (sym spot))
          (λ others. ap (λ (s : Spot). spot_after s (statements names.before others)) (sym spot))
          (λ others. ap (λ (xs : List Stmt). statements_before names.after xs others) added
          ∙ statements_more names.after found one others)
          met;
    }

-- all statements were resolved
pub block_done : {start : Visible} {first : Option Offence} {slots : List Slot} {stmts : List Stmt} {index : ℕ}
    {found : List Stmt} {now : Visible} {noted : Option Offence} {slots_now : List Slot}
    → BlockSoFar start first slots stmts index found now noted slots_now → length stmts ≤ index
    → Done (statements start.names.before) made_from met_from spot_after (start.scope, length slots) first stmts
    (statements start.names.after found) (now.scope, length slots_now) noted
block_done {start} {found = found} h over = all_done h.so_far over
    (sym (statements_all start.names.after found)) refl refl

pub slots_done : {start : Visible} {first : Option Offence} {slots : List Slot} {stmts : List Stmt} {index : ℕ}
    {found : List Stmt} {now : Visible} {noted : Option Offence} {slots_now : List Slot}
    → BlockSoFar start first slots stmts index found now noted slots_now → length stmts ≤ index
    → slots_now ≡ slots ++ statements_slots (statements start.names.before stmts)
slots_done {start} {stmts = stmts} {index = index} {slots_now = slots_now} h over =
    sym (append-nil slots_now)
    ∙ (ap (λ (xs : List Stmt). slots_now ++ statements_slots (statements start.names.before xs))
    (sym (drop_all index stmts over))
    ∙ h.slots_are)
