-- Statements that hold others: the resolved statement, its offences and its slots, from those of its parts.
use Rattle.std.proofs.Common.{◌≡◌, ℕ, ◌+◌, List, ◌++◌, sym, ap, ◌∙◌, subst, length, fold, append_assoc}
use Rattle.std.specs.Prelude.{Option}
use Rattle.std.specs.declared.alloc.Global.{Global}
use Rattle.std.specs.declared.sync.Arc.{Arc}
use Rattle.std.specs.declared.vec.Vec.{Vec}
use Rattle.std.proofs.lemmas.List.{length-append}
use Rattle.abs_tree.proofs.StatementLemmas.{statement-while, statement-if}
use Rattle.abs_tree.specs.Offences.{earlier}
use Rattle.abs_program.specs.Slots.{statement_slots, statements_slots, else_slots}
use Rattle.abs_tree.specs.Syntax.{ExprTree, Statement, Statements, IfOf, WhileOf}
use Rattle.abs_tree.specs.SyntaxViews.{expr_tree, statement, statements, maybe_statements}
use Rattle.abs_tree.specs.declared.place.Place.{Place}
use Rattle.abs_tree.specs.declared.refusal.Offence.{Offence}
use Rattle.abs_tree.specs.declared.syntax.expression.Expr.{Expr}
use Rattle.abs_tree.specs.declared.syntax.slot.Slot.{Slot}
use Rattle.abs_tree.specs.declared.syntax.statement.Stmt as code
use Rattle.abs_tree.specs.declared.syntax.statement.Stmt.{Stmt}
use Rattle.abs_names.specs.NameOffences.{expr_offences, statement_offences, statements_offences, else_offences}
use Rattle.abs_names.specs.Resolution.{resolved_expr, resolved_statement, resolved_statements, resolved_else}
use Rattle.abs_names.specs.Visible.{Visible}
use Rattle.abs_names.proofs.FormLemmas.{both_noted}

-- a resolved loop, and its offences
pub while_found : (start now : Visible) (next : ℕ) (tree : Statement) (index : ℕ) (place : Place)
    (made : Arc Expr Global) (found : Vec Stmt Global) (value : Expr) (items : List Stmt)
    → tree ≡ WhileOf index place (expr_tree start.names.before value) (statements start.names.before items) → now ≡ start
    → expr_tree start.names.after made.value ≡ resolved_expr start.scope (expr_tree start.names.before value)
    → statements now.names.after found.items ≡ resolved_statements now.scope next (statements now.names.before items)
    → statement start.names.after (code.While index place made found) ≡ resolved_statement start.scope next tree
while_found start now next tree index place made found value items is same condition body =
    statement-while start.names.after index place made found
    ∙ (ap (λ (p : ExprTree). WhileOf index place p (statements start.names.after found.items)) condition
    ∙ (ap (WhileOf index place (resolved_expr start.scope (expr_tree start.names.before value)))
    (subst (λ (v : Visible). statements v.names.after found.items ≡ resolved_statements v.scope next
    (statements v.names.before items))
    same body)
    ∙ sym (ap (resolved_statement start.scope next) is)))

pub while_noted : (start now : Visible) (next : ℕ) (tree : Statement) (index : ℕ) (place : Place) (value : Expr)
    (items : List Stmt) (first between after : Option Offence)
    → tree ≡ WhileOf index place (expr_tree start.names.before value) (statements start.names.before items) → now ≡ start
    → between ≡ fold earlier first (expr_offences start.scope (expr_tree start.names.before value))
    → after ≡ fold earlier between (statements_offences now.scope next (statements now.names.before items))
    → after ≡ fold earlier first (statement_offences start.scope next tree)
while_noted start now next tree index place value items first between after is same note noted =
    both_noted first between after (expr_offences start.scope (expr_tree start.names.before value))
    (statements_offences start.scope next (statements start.names.before items)) note
    (subst (λ (v : Visible).
    after ≡ fold earlier between (statements_offences v.scope next (statements v.names.before items))) same noted)
    ∙ sym (ap (λ (t : Statement). fold earlier first (statement_offences start.scope next t)) is)

-- the slots of a statement whose tree is another one
pub slots_of_tree : (start now : Visible) (tree : Statement) (items : List Stmt) (slots after : List Slot)
    → statement_slots tree ≡ statements_slots (statements start.names.before items) → now ≡ start
    → after ≡ slots ++ statements_slots (statements now.names.before items) → after ≡ slots ++ statement_slots tree
slots_of_tree start now tree items slots after is same grown =
    subst (λ (v : Visible). after ≡ slots ++ statements_slots (statements v.names.before items)) same grown
    ∙ ap (λ (xs : List Slot). slots ++ xs) (sym is)

-- a resolved `if`, its offences and its slots
pub if_found : (start now later : Visible) (next after : ℕ) (tree : Statement) (index : ℕ) (place : Place)
    (made : Arc Expr Global) (found : Vec Stmt Global) (other : Option (Vec Stmt Global)) (value : Expr)
    (items : List Stmt) (second : Option (Vec Stmt Global))
    → tree
    ≡ IfOf index place (expr_tree start.names.before value) (statements start.names.before items)
    (maybe_statements start.names.before second) → now ≡ start → later ≡ start
    → after ≡ next + length (statements_slots (statements start.names.before items))
    → expr_tree start.names.after made.value ≡ resolved_expr start.scope (expr_tree start.names.before value)
    → statements now.names.after found.items ≡ resolved_statements now.scope next (statements now.names.before items)
    → maybe_statements later.names.after other ≡ resolved_else later.scope after
    (maybe_statements later.names.before second)
    → statement start.names.after (code.If index place made found other) ≡ resolved_statement start.scope next tree
if_found start now later next after tree index place made found other value items second is same still grown condition
    branch branch_else =
    let p = resolved_expr start.scope (expr_tree start.names.before value) in
    let first = resolved_statements start.scope next (statements start.names.before items) in
    statement-if start.names.after index place made found other
    ∙ (ap (λ (q : ExprTree). IfOf index place q (statements start.names.after found.items)
    (maybe_statements start.names.after other)) condition
    ∙ (ap (λ (ts : Statements). IfOf index place p ts (maybe_statements start.names.after other))
    (subst (λ (v : Visible). statements v.names.after found.items ≡ resolved_statements v.scope next
    (statements v.names.before items))
    same branch)
    ∙ (ap (IfOf index place p first)
    (subst (λ (v : Visible).
    maybe_statements v.names.after other ≡ resolved_else v.scope after (maybe_statements v.names.before second))
    still branch_else
    ∙ ap (λ (n : ℕ). resolved_else start.scope n (maybe_statements start.names.before second)) grown)
    ∙ sym (ap (resolved_statement start.scope next) is))))

pub if_noted : (start now later : Visible) (next after : ℕ) (tree : Statement) (index : ℕ) (place : Place)
    (value : Expr) (items : List Stmt) (second : Option (Vec Stmt Global)) (first between middle last : Option Offence)
    → tree
    ≡ IfOf index place (expr_tree start.names.before value) (statements start.names.before items)
    (maybe_statements start.names.before second) → now ≡ start → later ≡ start
    → after ≡ next + length (statements_slots (statements start.names.before items))
    → between ≡ fold earlier first (expr_offences start.scope (expr_tree start.names.before value))
    → middle ≡ fold earlier between (statements_offences now.scope next (statements now.names.before items))
    → last ≡ fold earlier middle (else_offences later.scope after (maybe_statements later.names.before second))
    → last ≡ fold earlier first (statement_offences start.scope next tree)
if_noted start now later next after tree index place value items second first between middle last is same still grown
    note noted met =
    let branch = statements_offences start.scope next (statements start.names.before items) in
    let other : List Offence = else_offences start.scope
    (next + length (statements_slots (statements start.names.before items)))
    (maybe_statements start.names.before second) in
    both_noted first between last (expr_offences start.scope (expr_tree start.names.before value)) (branch ++ other) note
    (both_noted between middle last branch other
    (subst (λ (v : Visible).
    middle ≡ fold earlier between (statements_offences v.scope next (statements v.names.before items))) same noted)
    (subst (λ (v : Visible).
    last ≡ fold earlier middle (else_offences v.scope after (maybe_statements v.names.before second))) still met
    ∙ ap (λ (n : ℕ). fold earlier middle (else_offences start.scope n
    (maybe_statements start.names.before second))) grown))
    ∙ sym (ap (λ (t : Statement). fold earlier first (statement_offences start.scope next t)) is)

pub if_slots : (start now later : Visible) (tree : Statement) (items : List Stmt)
    (second : Option (Vec Stmt Global)) (slots middle last : List Slot)
    → statement_slots tree
    ≡ statements_slots (statements start.names.before items) ++ else_slots (maybe_statements start.names.before second)
    → now ≡ start → later ≡ start → middle ≡ slots ++ statements_slots (statements now.names.before items)
    → last ≡ middle ++ else_slots (maybe_statements later.names.before second) → last ≡ slots ++ statement_slots tree
if_slots start now later tree items second slots middle last is same still grown more =
    let one = statements_slots (statements start.names.before items) in
    let other = else_slots (maybe_statements start.names.before second) in
    subst (λ (v : Visible). last ≡ middle ++ else_slots (maybe_statements v.names.before second)) still more
    ∙ (ap (λ (xs : List Slot). xs ++ other)
    (subst (λ (v : Visible). middle ≡ slots ++ statements_slots (statements v.names.before items)) same grown)
    ∙ (append_assoc slots one other ∙ ap (λ (xs : List Slot). slots ++ xs) (sym is)))

-- the first free slot after a branch
pub slots_after : (start now : Visible) (items : List Stmt) (slots middle : List Slot) → now ≡ start
    → middle ≡ slots ++ statements_slots (statements now.names.before items)
    → length middle ≡ length slots + length (statements_slots (statements start.names.before items))
slots_after start now items slots middle same grown =
    ap length (subst (λ (v : Visible). middle ≡ slots ++ statements_slots (statements v.names.before items)) same grown)
    ∙ length-append slots (statements_slots (statements start.names.before items))
