use Rattle.std.proofs.Common.{◌+◌, ◌*◌, take}
use Rattle.check_fun.proofs.PatternLemmas.{PatternsSoFar}
use Rattle.check_fun.proofs.checker.Checker.+patterns.Given as goal

-- The measure of each function is three times the depth of what it meets, and a rank of less than three: that of a
-- function which passes all of it on is the greater.
abbrev pub decreases-pattern : goal.decreases-pattern
decreases-pattern l = 3 * goal.size-pattern l

abbrev pub decreases-built : goal.decreases-built
decreases-built l = 3 * goal.size-built l + 2

abbrev pub decreases-patterns : goal.decreases-patterns
decreases-patterns l = 3 * goal.size-patterns l + 1

abbrev pub invariant-patterns-loop-index : goal.invariant-patterns-loop-index
invariant-patterns-loop-index l = PatternsSoFar l.fn.self l.subjects (take l.index l.patterns) l.fit l.self
