use Rattle.std.proofs.Common.{arith, length, subst}
use Rattle.abs_graph.specs.Graphs.{successors}
use Rattle.abs_graph.specs.Views.{graph_of}
use Rattle.circularity_test.proofs.LevelLemmas.{marks_more}
use Rattle.circularity_test.proofs.MarkLemmas.{spreads_longer}
use Rattle.circularity_test.specs.Distances.{Marks, Spreads}
use Rattle.circularity_test.proofs.distances.Distances.follow_level.Goals as goal

pub loop-index-preserved : goal.loop-index-preserved
loop-index-preserved c =
    let before = graph_of c.args.before.now in
    let node = c.node_at-node.result in
    let old = c.loop-index.self.marks.entries in
    let new = c.follow.new.self.marks.entries in
    let end = length c.args.self.now.marks.entries in
    let kept = c.loop-index.invariant.kept in
    let longer = spreads_longer (successors before node) c.args.distance old new c.in_ok-follow.ensures in
    let inside = c.loop-index-test.true in
    let ends = c.len-index-end.ensures.len in
    record {
      kept = omega (arith, kept, longer);
      marks = λ goal level next known. marks_more before goal level c.loop-index.index end node old new
          (c.loop-index.invariant.marks goal level next known) (omega (arith, inside, ends)) kept
          c.node_at-node.ensures.0 c.node_at-node.ensures.1
          (subst (λ it. Spreads (successors before node) it old new) next c.in_ok-follow.ensures);
    }

pub returns : goal.returns
returns c goal level next known =
    let ends = c.len-index-end.ensures.len in
    let past = c.loop-index-test.false in
    let at_most = c.loop-index.auto.index-end in
    subst (λ it. Marks (graph_of c.args.before.now) goal level it (length c.args.self.now.marks.entries)
    c.loop-index.self.marks.entries) (omega (arith, ends, past, at_most, c.requires))
    (c.loop-index.invariant.marks goal level next known)
