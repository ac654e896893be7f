-- Lists of trees that are resolved in one scope, which stays as it is.
use Rattle.std.proofs.Common.{◌≡◌, ℕ, ◌+◌, ◌<◌, List, [], ◌∷◌, ◌++◌, refl, sym, ap, ◌∙◌, subst, length, get_or, fold, append_assoc}
use Rattle.std.specs.Prelude.{Option}
use Rattle.abs_tree.specs.Offences.{earlier}
use Rattle.abs_tree.specs.Syntax.{Name, ExprTree, NextExpr, NextOperand, PatternTree, NextBranch, NextTest}
use Rattle.abs_tree.specs.SyntaxViews.{pattern_tree, expr_tree, expr_trees, operand_trees, branches, tests}
use Rattle.abs_tree.specs.declared.refusal.Offence.{Offence}
use Rattle.abs_tree.specs.declared.syntax.expression.Expr.{Expr}
use Rattle.abs_tree.specs.declared.syntax.expression.Operand.{Operand}
use Rattle.abs_tree.specs.declared.syntax.expression.Branch.{Branch}
use Rattle.abs_tree.specs.declared.syntax.statement.Test.{Test}
use Rattle.abs_names.specs.NameOffences.{pattern_offences, expr_offences, exprs_offences, operands_offences, branches_offences, tests_offences}
use Rattle.abs_names.specs.Resolution.{resolved_pattern, resolved_expr, resolved_exprs, resolved_operands, resolved_branches, resolved_tests}
use Rattle.abs_names.specs.Scopes.{Scope, pattern_scope}
use Rattle.abs_names.specs.Visible.{Visible}
use Rattle.abs_names.proofs.LoopLemmas.{SoFar, one_more}
use Rattle.abs_tree.proofs.TreeLemmas.{exprs_before, exprs_more, operands_before, operands_more, branches_before, branches_more, tests_before, tests_more}

-- the scope is the same after each tree
abbrev pub same_scope : {T : Type 0} → Scope → T → Scope
same_scope scope trees = scope

-- The items before an index were resolved, all in the scope of the start, which is still the scope now.
pub record RowSoFar {A T : Type 0} (trees : List Name → List A → T) (before : List Name → List A → T → T)
    (made : Scope → T → T) (met : Scope → T → List Offence) (start : Visible) (first : Option Offence) (items : List A)
    (index : ℕ) (found : List A) (now : Visible) (noted : Option Offence) : Type 0 where
  pub same : now ≡ start
  pub so_far : SoFar (trees start.names.before) (before start.names.after) made met same_scope start.scope first
      items index found start.scope noted

-- one more item was resolved
pub row_step : {A T : Type 0} {trees : List Name → List A → T} {before : List Name → List A → T → T}
    {made : Scope → T → T} {met : Scope → T → List Offence} {start : Visible} {first : Option Offence} {items : List A}
    {index : ℕ} {found : List A} {now after : Visible} {noted after_noted : Option Offence} {all : List A} (item : A)
    (next : T → T) (offences : List Offence)
    → RowSoFar trees before made met start first items index found now noted
    → index < length items → item ≡ get_or items index item
    → ((others : List A) → made now.scope (trees now.names.before (item ∷ others)) ≡ next (made now.scope
    (trees now.names.before others)))
    → ((others : List A) → met now.scope (trees now.names.before (item ∷ others)) ≡ offences ++ met now.scope
    (trees now.names.before others))
    → ((rest : T) → before now.names.after all rest ≡ before now.names.after found (next rest))
    → after_noted ≡ fold earlier noted offences → after ≡ now
    → RowSoFar trees before made met start first items (index + 1) all after after_noted
row_step {A} {T} {trees} {before} {made} {met} {start} {first} {items} {index} {found} {now} {after} {noted}
    {after_noted} {all} item next offences h there is make meet added note same =
    record {
      same = same ∙ h.same;
      so_far = one_more all start.scope after_noted item next offences h.so_far there is
          (subst (λ (v : Visible). (others : List A)
          → made v.scope (trees v.names.before (item ∷ others))
          ≡ next (made v.scope (trees v.names.before others))) h.same make)
          (subst (λ (v : Visible). (others : List A)
          → met v.scope (trees v.names.before (item ∷ others))
          ≡ offences ++ met v.scope (trees v.names.before others)) h.same meet)
          (λ others. refl)
          (subst (λ (v : Visible). (rest : T) → before v.names.after all rest ≡ before v.names.after found
          (next rest)) h.same added)
          note;
    }

-- expressions, operands and branches of which a prefix was resolved
abbrev pub ExprsSoFar : Visible → Option Offence → List Expr → ℕ → List Expr → Visible → Option Offence → Type 0
ExprsSoFar = RowSoFar expr_trees exprs_before resolved_exprs exprs_offences

abbrev pub OperandsSoFar : Visible → Option Offence → List Operand → ℕ → List Operand → Visible → Option Offence
    → Type 0
OperandsSoFar = RowSoFar operand_trees operands_before resolved_operands operands_offences

abbrev pub BranchesSoFar : Visible → Option Offence → List Branch → ℕ → List Branch → Visible → Option Offence → Type 0
BranchesSoFar = RowSoFar branches branches_before resolved_branches branches_offences

-- one more expression
pub exprs_step : {start : Visible} {first : Option Offence} {exprs : List Expr} {index : ℕ} {found : List Expr}
    {now after : Visible} {noted after_noted : Option Offence} {all : List Expr} (item one : Expr)
    → ExprsSoFar start first exprs index found now noted → index < length exprs → item ≡ get_or exprs index item
    → expr_tree now.names.after one ≡ resolved_expr now.scope (expr_tree now.names.before item)
    → after_noted ≡ fold earlier noted (expr_offences now.scope (expr_tree now.names.before item)) → after ≡ now
    → all ≡ found ++ one ∷ [] → ExprsSoFar start first exprs (index + 1) all after after_noted
exprs_step {found = found} {now = now} item one h there is made note same added =
    row_step item (NextExpr (expr_tree now.names.after one))
    (expr_offences now.scope (expr_tree now.names.before item)) h there is
    (λ others. ap (λ (t : ExprTree).
    NextExpr t (resolved_exprs now.scope (expr_trees now.names.before others))) (sym made))
    (λ others. refl)
    (λ rest. ap (λ (xs : List Expr). exprs_before now.names.after xs rest) added
    ∙ exprs_more now.names.after found one rest)
    note same

-- one more operand
pub operands_step : {start : Visible} {first : Option Offence} {operands : List Operand} {index : ℕ}
    {found : List Operand} {now after : Visible} {noted after_noted : Option Offence} {all : List Operand}
    (item one : Operand)
    → OperandsSoFar start first operands index found now noted → index < length operands
    → item ≡ get_or operands index item → one.operator ≡ item.operator
    → expr_tree now.names.after one.right ≡ resolved_expr now.scope (expr_tree now.names.before item.right)
    → after_noted ≡ fold earlier noted (expr_offences now.scope (expr_tree now.names.before item.right)) → after ≡ now
    → all ≡ found ++ one ∷ [] → OperandsSoFar start first operands (index + 1) all after after_noted
operands_step {found = found} {now = now} item one h there is operator made note same added =
    row_step item (NextOperand one.operator (expr_tree now.names.after one.right))
    (expr_offences now.scope (expr_tree now.names.before item.right)) h there is
    (λ others. let rest = resolved_operands now.scope (operand_trees now.names.before others) in
    ap (λ (t : ExprTree). NextOperand item.operator t rest) (sym made)
    ∙ ap (λ o. NextOperand o (expr_tree now.names.after one.right) rest) (sym operator))
    (λ others. refl)
    (λ rest. ap (λ (xs : List Operand). operands_before now.names.after xs rest) added
    ∙ operands_more now.names.after found one rest)
    note same

-- one more branch
pub branches_step : {start : Visible} {first : Option Offence} {arms : List Branch} {index : ℕ} {found : List Branch}
    {now after : Visible} {noted after_noted : Option Offence} {all : List Branch} (item one : Branch)
    → BranchesSoFar start first arms index found now noted → index < length arms → item ≡ get_or arms index item
    → pattern_tree now.names.after one.pattern ≡ resolved_pattern now.scope (pattern_tree now.names.before item.pattern)
    → expr_tree now.names.after one.value
    ≡ resolved_expr (pattern_scope now.scope (pattern_tree now.names.before item.pattern))
    (expr_tree now.names.before item.value)
    → after_noted ≡ fold earlier noted (pattern_offences now.scope (pattern_tree now.names.before item.pattern)
    ++ expr_offences (pattern_scope now.scope (pattern_tree now.names.before item.pattern))
    (expr_tree now.names.before item.value))
    → after ≡ now → all ≡ found ++ one ∷ [] → BranchesSoFar start first arms (index + 1) all after after_noted
branches_step {found = found} {now = now} item one h there is pattern value note same added =
    let tree = pattern_tree now.names.before item.pattern in
    let inside = pattern_scope now.scope tree in
    let body = expr_tree now.names.before item.value in
    row_step item (NextBranch (pattern_tree now.names.after one.pattern) (expr_tree now.names.after one.value))
    (pattern_offences now.scope tree ++ expr_offences inside body) h there is
    (λ others. let rest = resolved_branches now.scope (branches now.names.before others) in
    ap (λ (p : PatternTree). NextBranch p (resolved_expr inside body) rest) (sym pattern)
    ∙ ap (λ (t : ExprTree). NextBranch (pattern_tree now.names.after one.pattern) t rest) (sym value))
    (λ others. sym (append_assoc (pattern_offences now.scope tree) (expr_offences inside body)
    (branches_offences now.scope (branches now.names.before others))))
    (λ rest. ap (λ (xs : List Branch). branches_before now.names.after xs rest) added
    ∙ branches_more now.names.after found one rest)
    note same

-- tests of which a prefix was resolved
abbrev pub TestsSoFar : Visible → Option Offence → List Test → ℕ → List Test → Visible → Option Offence → Type 0
TestsSoFar = RowSoFar tests tests_before resolved_tests tests_offences

-- one more test
pub tests_step : {start : Visible} {first : Option Offence} {items : List Test} {index : ℕ} {found : List Test}
    {now after : Visible} {noted after_noted : Option Offence} {all : List Test} (item one : Test)
    → TestsSoFar start first items index found now noted → index < length items → item ≡ get_or items index item
    → one.place ≡ item.place → one.asks ≡ item.asks
    → expr_tree now.names.after one.value.value ≡ resolved_expr now.scope (expr_tree now.names.before item.value.value)
    → after_noted ≡ fold earlier noted (expr_offences now.scope (expr_tree now.names.before item.value.value))
    → after ≡ now → all ≡ found ++ one ∷ [] → TestsSoFar start first items (index + 1) all after after_noted
tests_step {found = found} {now = now} item one h there is place asks made note same added =
    let value = expr_tree now.names.after one.value.value in
    row_step item (NextTest one.place value one.asks) (expr_offences now.scope
    (expr_tree now.names.before item.value.value)) h there is
    (λ others. let rest = resolved_tests now.scope (tests now.names.before others) in
    ap (λ (t : ExprTree). NextTest item.place t item.asks rest) (sym made)
    ∙ (ap (λ p. NextTest p value item.asks rest) (sym place) ∙ ap (λ a. NextTest one.place value a rest) (sym asks)))
    (λ others. refl)
    (λ rest. ap (λ (xs : List Test). tests_before now.names.after xs rest) added
    ∙ tests_more now.names.after found one rest)
    note same
