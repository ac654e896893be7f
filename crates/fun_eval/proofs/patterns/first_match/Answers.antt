use Rattle.std.proofs.Common.{ap, ◌∙◌, map, refl, subst, List}
use Rattle.abs_values.specs.Evaluation.{branches_outcome}
use Rattle.abs_values.specs.Operations.{matched}
use Rattle.abs_tree.specs.Syntax.{Branches}
use Rattle.abs_tree.specs.SyntaxViews.{pattern_tree, expr_tree}
use Rattle.abs_values.specs.ValueTrees.{ValueTree}
use Rattle.abs_values.specs.ValueViews.{value_tree}
use Rattle.fun_eval.specs.Matching.{Matches}
use Rattle.fun_eval.proofs.PatternLemmas.{first_begins, first_matches, none_matches}
use Rattle.fun_eval.proofs.RowLemmas.{branches_at, branches_end}
use Rattle.fun_eval.proofs.StackLemmas.{restored}
use Rattle.fun_eval.proofs.patterns.first_match.Goals as goal

pub returns-then-branch : goal.returns-then-branch
returns-then-branch c =
    let names = c.args.symbols.now in
    let value = value_tree c.args.value.now in
    let item = c.branch-item.result in
    let before = map value_tree c.args.bound.now.items in
    let now = map value_tree c.matches.new.bound.items in
    let matches = subst (λ (items : List ValueTree). Matches (matched names (pattern_tree names item.pattern) value)
    c.in_ok-matches.field-0 items now) c.loop-branch.invariant.0 c.in_ok-matches.ensures in (
      first_begins _ _ before now matches,
      λ give made.
          c.loop-branch.invariant.1 give made
          ∙ (ap (λ (trees : Branches). branches_outcome names give trees value made)
          (branches_at names c.args.branches.now c.loop-branch.branch-index item c.loop-branch-test.true c.branch-item.is)
          ∙ first_matches names give (pattern_tree names item.pattern) (expr_tree names item.value) _ value made before now
          c.in_ok-matches.field-0 c.if-branch.true matches),
    )

pub loop-branch-init : goal.loop-branch-init
loop-branch-init c = (refl, λ give made. refl)

pub loop-branch-preserved : goal.loop-branch-preserved
loop-branch-preserved c =
    let names = c.args.symbols.now in
    let value = value_tree c.args.value.now in
    let item = c.branch-item.result in
    let before = map value_tree c.args.bound.now.items in
    let now = map value_tree c.matches.new.bound.items in
    let matches = subst (λ (items : List ValueTree). Matches (matched names (pattern_tree names item.pattern) value)
    c.in_ok-matches.field-0 items now) c.loop-branch.invariant.0 c.in_ok-matches.ensures in (
      restored c.args.bound.now.items c.matches.new.bound.items c.truncate.new.self.items c.len-outside.result
          (c.len-outside.ensures ∙ c.args.bound.now.ok.0) c.truncate.ensures.items (first_begins _ _ before now matches),
      λ give made.
          c.loop-branch.invariant.1 give made
          ∙ (ap (λ (trees : Branches). branches_outcome names give trees value made)
          (branches_at names c.args.branches.now c.loop-branch.branch-index item c.loop-branch-test.true c.branch-item.is)
          ∙ none_matches names give (pattern_tree names item.pattern) (expr_tree names item.value) _ value made before now
          c.in_ok-matches.field-0 c.if-branch.false matches),
    )

pub returns : goal.returns
returns c = λ give made.
    c.loop-branch.invariant.1 give made
    ∙ ap (λ (trees : Branches). branches_outcome c.args.symbols.now give trees (value_tree c.args.value.now) made)
    (branches_end c.args.symbols.now c.args.branches.now c.loop-branch.branch-index c.loop-branch-test.false)
