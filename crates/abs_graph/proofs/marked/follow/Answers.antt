use Rattle.std.proofs.Common.{List, Bool, ◌∙◌, sym, subst}
use Rattle.abs_graph.specs.Reaching.{KeepsSound}
use Rattle.abs_graph.specs.Views.{graph_of}
use Rattle.abs_graph.proofs.ReachingLemmas.{keeps_more}
use Rattle.abs_graph.proofs.marked.follow.Goals as goal

pub returns-in_ok-push : goal.returns-in_ok-push
returns-in_ok-push c =
    subst (λ (found : List Bool). KeepsSound (graph_of c.args.graph.now) c.args.found.now found) (sym c.mark.ensures)
    (keeps_more (graph_of c.args.graph.now) c.args.found.now c.args.arrival.from c.in-Some.next c.requires
    c.in-Some.ensures (sym c.is_marked.ensures ∙ c.if-is_marked.true))
