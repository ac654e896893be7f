use Rattle.abs_program.specs.NamedViews.{named_tree}
use Rattle.contract_infer.proofs.CallLemmas.{AreCallsBefore}
use Rattle.contract_infer.proofs.calls.calls_within.Given as goal

-- the calls of the statements so far were found
abbrev pub invariant-loop-index : goal.invariant-loop-index
invariant-loop-index l = AreCallsBefore (named_tree l.program) l.class l.first l.index l.found.items
