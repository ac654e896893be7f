use Rattle.std.proofs.Common.{◌≡◌, ◌≤◌, length}
use Rattle.abs_program.specs.Comparisons.{functions_among}
use Rattle.abs_program.proofs.comparing.first_function.Given as goal

-- the functions are among the declarations that are left
abbrev pub invariant-loop-first : goal.invariant-loop-first
invariant-loop-first l = record {
  among_rest : functions_among l.declarations ≡ functions_among l.rest;
  no_longer : length l.rest ≤ length l.declarations;
}

abbrev pub decreases-loop-first : goal.decreases-loop-first
decreases-loop-first l = length l.rest
