use Rattle.std.proofs.Common.{◌<◌, length, set, arith}
use Rattle.abs_graph.specs.Views.{graph_of}
use Rattle.abs_graph.proofs.RootEdgeLemmas.{edge_added, roots_added_more, roots_added_same}
use Rattle.abs_graph.proofs.reach.add_roots.Goals.{then-root-from+in_ok-push, else-root-from}
use Rattle.abs_graph.proofs.reach.add_roots.Goals as goal

pub loop-next-preserved : goal.loop-next-preserved
loop-next-preserved c =
    let roots = c.args.components.now.roots.items in
    let old = graph_of c.args.edges.now in
    let middle = graph_of c.loop-next.edges in
    let from = c.args.from in
    let root = c.root-root.result in
    elim c.if-root-from.branch [
      | then-root-from+in_ok-push w ↦
          let inside : from < length c.loop-next.edges = omega (arith, c.requires) in
          rw w.edges-is
          (roots_added_more roots c.args.row.now from c.loop-next.next-index root old middle
          (graph_of (set c.loop-next.edges from w.push.new.self)) c.loop-next.invariant c.loop-next-test.true
          c.root-root.ensures w.if-root-from.true
          (edge_added c.loop-next.edges from root w.push.new.self w.index-edges-from.result inside
          w.in_ok-push.ensures.items))
      | else-root-from w ↦
          rw w.edges-is
          (roots_added_same roots c.args.row.now from c.loop-next.next-index root old middle
          c.loop-next.invariant c.loop-next-test.true c.root-root.ensures w.if-root-from.false)
    ]
