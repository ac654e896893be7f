-- How long the lists of a tree are.
--
--   `count_patterns`, `count_exprs`        how many patterns, and how many expressions there are
use Rattle.std.specs.Prelude.{ℕ, ◌+◌}
use Rattle.abs_tree.specs.Syntax.{PatternTrees, NoPattern, NextPattern, ExprTrees, NoExpr, NextExpr}

abbrev pub count_patterns : PatternTrees → ℕ
count_patterns NoPattern = 0
count_patterns (NextPattern first others) = 1 + count_patterns others

abbrev pub count_exprs : ExprTrees → ℕ
count_exprs NoExpr = 0
count_exprs (NextExpr first others) = 1 + count_exprs others
