use Rattle.std.proofs.Common.{ℕ, sym, subst, length, arith}
use Rattle.abs_graph.specs.Components.{AreComponents}
use Rattle.abs_graph.specs.Graphs.{Graph}
use Rattle.abs_graph.specs.Views.{graph_of}
use Rattle.abs_graph.proofs.ComponentLemmas.{ArePlaced, placed_components}
use Rattle.abs_graph.proofs.TableLemmas.{rows_count}
use Rattle.abs_graph.proofs.components.split.Goals as goal

pub invariant_of-result : goal.invariant_of-result
invariant_of-result c =
    let graph = graph_of c.args.graph.now in
    let roots = c.loop-node.roots.items in
    let numbers = c.loop-node.numbers.items in
    let count = rows_count c.args.graph.now in
    let placed : ArePlaced c.args.places.now roots numbers (length graph) c.loop-node.node =
    subst (λ (n : ℕ). ArePlaced c.args.places.now roots numbers n c.loop-node.node) count c.loop-node.invariant in
    record {
      are = subst (λ (g : Graph). AreComponents g roots numbers) (sym c.in_ok-graph.ensures)
          (placed_components graph c.args.places.now roots numbers c.loop-node.node c.requires.nodes c.requires.rises
          c.requires.ways placed (omega (arith, count, c.loop-node-test.false)));
    }
