use Rattle.std.proofs.Common.{◌+◌, ◌*◌, map}
use Rattle.abs_values.specs.Operations.{all_matched}
use Rattle.abs_tree.specs.SyntaxViews.{pattern_trees}
use Rattle.abs_values.specs.ValueViews.{value_tree, value_trees}
use Rattle.fun_eval.proofs.PatternLemmas.{PatternsSoFar}
use Rattle.fun_eval.proofs.patterns.+matching.Given as goal

-- patterns of arguments are smaller than the pattern, and are matched in one more call
abbrev pub decreases-matches : goal.decreases-matches
decreases-matches l = 2 * goal.size-matches l

abbrev pub decreases-all_match : goal.decreases-all_match
decreases-all_match l = 2 * goal.size-all_match l + 1

abbrev pub invariant-all_match-loop-pattern : goal.invariant-all_match-loop-pattern
invariant-all_match-loop-pattern l =
    PatternsSoFar l.symbols (all_matched l.symbols (pattern_trees l.symbols l.patterns) (value_trees l.values))
    l.pattern-iterator.a.rest.now l.pattern-iterator.b.rest.now (map value_tree l.fn.bound.items)
    (map value_tree l.bound.items)
