use Rattle.std.proofs.Common.{map}
use Rattle.contract_terms.specs.Views.{reads_tree}
use Rattle.saturation.proofs.AddedLemmas.{EachBefore}
use Rattle.saturation.proofs.uses.Uses.add_reads.Given as goal
use Rattle.saturation.specs.UsesAdded.{Added, ExprReads}

-- what the expressions so far read was added
abbrev pub invariant-loop-expr : goal.invariant-loop-expr
invariant-loop-expr l =
    Added (EachBefore (ExprReads l.body l.index) (map reads_tree l.reads) l.expr) l.initial.self l.self
