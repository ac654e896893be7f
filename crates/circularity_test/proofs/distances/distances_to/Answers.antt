use Rattle.std.proofs.Common.{◌∙◌, ◌+◌, List, ℕ, ap, arith, length, nat_eq, subst, sym}
use Rattle.abs_graph.specs.Views.{graph_of}
use Rattle.circularity_test.proofs.LevelLemmas.{marks_first, marks_near, marks_next}
use Rattle.circularity_test.specs.Distances.{Marks}
use Rattle.indexmap.specs.IndexMap.{insert_entry}
use Rattle.circularity_test.proofs.distances.distances_to.Goals as goal

pub loop-found-init : goal.loop-found-init
loop-found-init c = record {
  small = omega arith;
  marks = marks_first (graph_of c.args.before.now) c.args.goal c.insert.new.self.entries
      (c.in_ok-insert.ensures.entries
      ∙ ap (λ (it : List (ℕ × ℕ)). insert_entry nat_eq it c.args.goal 0) c.new.ensures.empty);
}

pub loop-found-preserved : goal.loop-found-preserved
loop-found-preserved c =
    let before = graph_of c.args.before.now in
    let level = c.loop-found.level in
    let new = c.follow_level.new.self.marks.entries in
    let is = c.len-end.ensures.len in
    let small = c.loop-found.invariant.small in
    let left = c.is_open.ensures.left c.loop-found-test.true in
    record {
      small = omega (arith, is, small, left);
      marks = subst (λ it. Marks before c.args.goal (level + 1) it (length new) new) (sym is)
          (marks_next before c.args.goal level (length c.loop-found.found.marks.entries) new
          (c.in_ok-follow_level.ensures c.args.goal level (omega arith) c.loop-found.invariant.marks));
    }

pub returns : goal.returns
returns c =
    marks_near (graph_of c.args.before.now) c.args.goal c.loop-found.level c.loop-found.begin c.args.starts.now
    c.loop-found.found.marks.entries c.loop-found.invariant.marks (c.is_open.ensures.done c.loop-found-test.false)
