-- Expressions that hold a list: the resolved one from its resolved parts, and its offences.
use Rattle.std.proofs.Common.{◌≡◌, ℕ, List, ◌++◌, sym, ap, ◌∙◌, subst, length, fold}
use Rattle.std.specs.Prelude.{Option}
use Rattle.std.specs.declared.alloc.Global.{Global}
use Rattle.std.specs.declared.boxed.Box.{Box}
use Rattle.std.specs.declared.sync.Arc.{Arc}
use Rattle.std.specs.declared.vec.Vec.{Vec}
use Rattle.std.proofs.lemmas.List.Sums.{fold-append}
use Rattle.abs_tree.proofs.SyntaxLemmas.{expr_tree-own_call, expr_tree-apply, expr_tree-build, expr_tree-operators, expr_tree-case}
use Rattle.abs_tree.specs.Offences.{earlier}
use Rattle.abs_tree.specs.Syntax.{Name, ExprTree, OperatorsOf, OwnCallOf, ApplyOf, BuildOf, CaseOf}
use Rattle.abs_tree.specs.SyntaxCounts.{count_exprs}
use Rattle.abs_tree.specs.SyntaxViews.{expr_tree, expr_trees, operand_trees, branches}
use Rattle.abs_tree.specs.Names.{name_of}
use Rattle.abs_tree.specs.declared.place.Place.{Place}
use Rattle.abs_tree.specs.declared.refusal.Offence.{Offence}
use Rattle.abs_tree.specs.declared.symbol.Symbol.{Symbol}
use Rattle.abs_tree.specs.declared.syntax.expression.Expr as code
use Rattle.abs_tree.specs.declared.syntax.expression.Expr.{Expr}
use Rattle.abs_tree.specs.declared.syntax.expression.Operand.{Operand}
use Rattle.abs_tree.specs.declared.syntax.expression.Branch.{Branch}
use Rattle.abs_names.specs.NameOffences.{exprs_offences}
use Rattle.abs_names.specs.Resolution.{resolved_exprs, resolved_operands, resolved_branches}
use Rattle.abs_names.specs.TypeNames.{Around, applied}
use Rattle.abs_names.specs.Visible.{Names, Known, Visible}
use Rattle.abs_tree.proofs.FormLemmas.{exprs_counted}

-- offences that were noted one list after the other were noted together
pub both_noted : (first between after : Option Offence) (one other : List Offence) → between ≡ fold earlier first one
    → after ≡ fold earlier between other → after ≡ fold earlier first (one ++ other)
both_noted first between after one other note noted =
    noted ∙ (ap (λ (o : Option Offence). fold earlier o other) note ∙ sym (fold-append earlier first one other))

-- the offence of a name with its arguments was noted, and then those of the arguments
pub applied_noted : (first between after : Option Offence) (taken known : Option ℕ) (given count : ℕ) (place : Place)
    (others : List Offence) → taken ≡ known → count ≡ given → between ≡ fold earlier first (applied taken given place)
    → after ≡ fold earlier between others → after ≡ fold earlier first (applied known count place ++ others)
applied_noted first between after taken known given count place others is counted note noted =
    both_noted first between after (applied known count place) others
    (note ∙ (ap (λ (t : Option ℕ). fold earlier first (applied t given place)) is
    ∙ ap (λ (n : ℕ). fold earlier first (applied known n place)) (sym counted)))
    noted

-- what depends on what is around, and on the names of what is read, is the same of a scope
pub in_scope : {B : Type 0} (f : Around → List Name → B) (known : Known) (scope : Visible) → known.names ≡ scope.names
    → known.around ≡ scope.scope.around → f known.around known.names.before ≡ f scope.scope.around scope.names.before
in_scope f known scope names around =
    ap (λ (ns : Names). f known.around ns.before) names ∙ ap (λ (a : Around). f a scope.names.before) around

-- a symbol that was kept has the name of before, also among equal names
pub kept_in : (known : Known) (names : Names) (kept name : Symbol)
    → name_of known.names.after kept ≡ name_of known.names.before name → known.names ≡ names
    → name_of names.after kept ≡ name_of names.before name
kept_in known names kept name is same =
    subst (λ (ns : Names). name_of ns.after kept ≡ name_of ns.before name) same is

-- resolved operators of one precedence
pub operators_found : (start now : Visible) (place : Place) (made : Box Expr Global) (found : Vec Operand Global)
    (first : ExprTree) (items : List Operand) → now ≡ start → expr_tree start.names.after made.value ≡ first
    → operand_trees now.names.after found.items ≡ resolved_operands now.scope (operand_trees now.names.before items)
    → expr_tree start.names.after (code.Operators place made found)
    ≡ OperatorsOf place first (resolved_operands start.scope (operand_trees start.names.before items))
operators_found start now place made found first items same one others =
    expr_tree-operators start.names.after place made found
    ∙ (ap (λ (p : ExprTree). OperatorsOf place p (operand_trees start.names.after found.items)) one
    ∙ ap (OperatorsOf place first) (subst (λ (v : Visible).
    operand_trees v.names.after found.items ≡ resolved_operands v.scope (operand_trees v.names.before items))
    same others))

-- a resolved `case`
pub case_found : (start now : Visible) (place : Place) (made : Box Expr Global) (found : Vec Branch Global)
    (subject : ExprTree) (items : List Branch) → now ≡ start → expr_tree start.names.after made.value ≡ subject
    → branches now.names.after found.items ≡ resolved_branches now.scope (branches now.names.before items)
    → expr_tree start.names.after (code.Case place made found)
    ≡ CaseOf place subject (resolved_branches start.scope (branches start.names.before items))
case_found start now place made found subject items same one others =
    expr_tree-case start.names.after place made found
    ∙ (ap (λ (p : ExprTree). CaseOf place p (branches start.names.after found.items)) one
    ∙ ap (CaseOf place subject) (subst (λ (v : Visible).
    branches v.names.after found.items ≡ resolved_branches v.scope (branches v.names.before items)) same others))

-- a resolved call on `this`, of a function and of a constructor
pub own_call_found : (start now : Visible) (place : Place) (method : Name) (kept : Symbol)
    (made : Arc (Vec Expr Global) Global) (found : Vec Expr Global) (items : List Expr) → now ≡ start
    → name_of start.names.after kept ≡ method → made.value ≡ found
    → expr_trees now.names.after found.items ≡ resolved_exprs now.scope (expr_trees now.names.before items)
    → expr_tree start.names.after (code.OwnCall place kept made)
    ≡ OwnCallOf place method (resolved_exprs start.scope (expr_trees start.names.before items))
own_call_found start now place method kept made found items same name shared resolved =
    expr_tree-own_call start.names.after place kept made
    ∙ (ap (λ (v : Vec Expr Global). OwnCallOf place (name_of start.names.after kept)
    (expr_trees start.names.after v.items)) shared
    ∙ (ap (λ (n : Name). OwnCallOf place n (expr_trees start.names.after found.items)) name
    ∙ ap (OwnCallOf place method) (subst (λ (v : Visible).
    expr_trees v.names.after found.items ≡ resolved_exprs v.scope (expr_trees v.names.before items)) same resolved)))

pub apply_found : (start now : Visible) (place : Place) (function : Name) (kept : Symbol) (found : Vec Expr Global)
    (items : List Expr) → now ≡ start → name_of start.names.after kept ≡ function
    → expr_trees now.names.after found.items ≡ resolved_exprs now.scope (expr_trees now.names.before items)
    → expr_tree start.names.after (code.Apply place kept found)
    ≡ ApplyOf place function (resolved_exprs start.scope (expr_trees start.names.before items))
apply_found start now place function kept found items same name resolved =
    expr_tree-apply start.names.after place kept found
    ∙ (ap (λ (n : Name). ApplyOf place n (expr_trees start.names.after found.items)) name
    ∙ ap (ApplyOf place function) (subst (λ (v : Visible).
    expr_trees v.names.after found.items ≡ resolved_exprs v.scope (expr_trees v.names.before items)) same resolved))

pub build_found : (start now : Visible) (place : Place) (constructor : Name) (kept : Symbol) (found : Vec Expr Global)
    (items : List Expr) → now ≡ start → name_of start.names.after kept ≡ constructor
    → expr_trees now.names.after found.items ≡ resolved_exprs now.scope (expr_trees now.names.before items)
    → expr_tree start.names.after (code.Build place kept found)
    ≡ BuildOf place constructor (resolved_exprs start.scope (expr_trees start.names.before items))
build_found start now place constructor kept found items same name resolved =
    expr_tree-build start.names.after place kept found
    ∙ (ap (λ (n : Name). BuildOf place n (expr_trees start.names.after found.items)) name
    ∙ ap (BuildOf place constructor) (subst (λ (v : Visible).
    expr_trees v.names.after found.items ≡ resolved_exprs v.scope (expr_trees v.names.before items)) same resolved))

-- the offences of a name with its arguments, which are expressions
pub exprs_noted : (start now : Visible) (place : Place) (items : List Expr) (taken known : Option ℕ)
    (first between after : Option Offence) → now ≡ start → taken ≡ known
    → between ≡ fold earlier first (applied taken (length items) place)
    → after ≡ fold earlier between (exprs_offences now.scope (expr_trees now.names.before items))
    → after ≡ fold earlier first (applied known (count_exprs (expr_trees start.names.before items)) place
    ++ exprs_offences start.scope (expr_trees start.names.before items))
exprs_noted start now place items taken known first between after same is note noted =
    applied_noted first between after taken known (length items)
    (count_exprs (expr_trees start.names.before items)) place
    (exprs_offences start.scope (expr_trees start.names.before items)) is (exprs_counted start.names.before items) note
    (subst (λ (v : Visible).
    after ≡ fold earlier between (exprs_offences v.scope (expr_trees v.names.before items))) same noted)
