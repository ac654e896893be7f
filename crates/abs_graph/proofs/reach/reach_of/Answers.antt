use Rattle.std.proofs.Common.{false, ◌≡◌, ◌∙◌, List, ℕ, sym, ap, subst}
use Rattle.std.specs.List.{All}
use Rattle.std.specs.declared.alloc.Global.{Global}
use Rattle.std.specs.declared.vec.Vec.{Vec}
use Rattle.abs_graph.specs.Graphs.{Graph, HasNodes, on_cycles}
use Rattle.abs_graph.specs.RootEdges.{AreRootEdges}
use Rattle.abs_graph.specs.Views.{graph_of}
use Rattle.abs_graph.proofs.RootReachLemmas.{roots_have_no_cycle, roots_have_nodes}
use Rattle.abs_graph.proofs.reach.reach_of.Goals as goal

pub closure_of-requires-clause-nodes : goal.closure_of-requires-clause-nodes
closure_of-requires-clause-nodes c =
    let found = c.in_ok-components.components in
    subst (λ (rows : List (Vec ℕ Global)). HasNodes (graph_of rows)) (sym c.as_slice-3.ensures.value)
    (roots_have_nodes (graph_of found.graph.items) found.roots.items found.numbers.items
    (graph_of c.in_ok-edges.edges.items) (subst HasNodes (sym c.in_ok-components.ensures) c.requires) found.are
    c.in_ok-edges.ensures)

pub closure_of-requires-clause-no_cycle : goal.closure_of-requires-clause-no_cycle
closure_of-requires-clause-no_cycle c =
    let found = c.in_ok-components.components in
    subst (λ (rows : List (Vec ℕ Global)). All (λ is_on_cycle. is_on_cycle ≡ false) (on_cycles (graph_of rows)))
    (sym c.as_slice-3.ensures.value)
    (roots_have_no_cycle (graph_of found.graph.items) found.roots.items found.numbers.items
    (graph_of c.in_ok-edges.edges.items) found.are c.in_ok-edges.ensures)

pub invariant_of-result : goal.invariant_of-result
invariant_of-result c =
    let found = c.in_ok-components.components in (
      subst (λ (edges : Graph). AreRootEdges (graph_of found.graph.items) found.roots.items edges)
          (sym (c.in_ok-closure.ensures ∙ ap graph_of c.as_slice-3.ensures.value)) c.in_ok-edges.ensures,
      c.in_ok-on_cycle.ensures ∙ ap on_cycles (sym c.in_ok-components.ensures),
    )
