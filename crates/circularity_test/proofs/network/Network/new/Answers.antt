-- The tables are made of the numbers of the nodes at which pairs wait, and of those to which their targets lead.
use denote.Struct.Props as logic
use mathlib.Core.Logic.{∥∥₁_elim}
use Rattle.std.proofs.Common.{ℕ, ◌∙◌, ◌<◌, All, List, length, ap, sym, subst}
use Rattle.std.proofs.lemmas.List.{length-map}
use Rattle.std.specs.declared.alloc.Global.{Global}
use Rattle.std.specs.declared.vec.Vec.{Vec}
use Rattle.abs_graph.specs.Views.{graph_of}
use Rattle.abs_program.specs.NamedViews.{program_tree}
use Rattle.circularity_test.proofs.NetworkLemmas.{exits_within, linked_by_tables}
use Rattle.circularity_test.proofs.NodeLemmas.{numbers_within, zip_length}
use Rattle.circularity_test.specs.Network.{AreBefore, AreMembers, LeadsAs, node_of}
use Rattle.circularity_test.proofs.network.Network.new.Goals as goal

pub members_of-requires : goal.members_of-requires
members_of-requires c =
    let entries = c.in_ok-entries.entries.items in
    subst (λ (list : List ℕ). All (λ entry. entry < c.len-count.result) list) (sym c.as_slice.ensures.value)
    (subst (λ (count : ℕ). All (λ entry. entry < count) entries) (sym c.len-count.ensures.len)
    (∥∥₁_elim c.args.pairs.now.numbered (Prim.hlevel logic.props) (λ it.
    numbers_within (node_of it.0) c.enter.new.nodes.keys c.args.pairs.now.pairs entries
    (c.in_ok-entries.ensures it.0 it.1))))

pub before_of-requires-clause-same : goal.before_of-requires-clause-same
before_of-requires-clause-same c =
    let program = program_tree c.args.program.now.checked.named in
    let nodes = c.enter.new.nodes.keys in
    let pairs = c.args.pairs.now.pairs in
    let exits = c.in_ok-exits.exits.items in
    ap length c.as_slice-3.ensures.value
    ∙ (sym (length-map exits (λ (row : Vec ℕ Global). row.items))
    ∙ (∥∥₁_elim c.args.pairs.now.numbered (Prim.hlevel logic.props) (λ it.
    sym (zip_length (LeadsAs program nodes it.0) pairs (graph_of exits) (c.in_ok-exits.ensures it.0 it.1))
    ∙ zip_length _ pairs c.in_ok-entries.entries.items (c.in_ok-entries.ensures it.0 it.1))
    ∙ sym (ap length c.as_slice-2.ensures.value)))

pub before_of-requires-clause-inside : goal.before_of-requires-clause-inside
before_of-requires-clause-inside c =
    let program = program_tree c.args.program.now.checked.named in
    let nodes = c.enter.new.nodes.keys in
    let exits = c.in_ok-exits.exits.items in
    subst (λ (rows : List (Vec ℕ Global)). All (λ row. All (λ number. number < c.len-count.result) row) (graph_of rows))
    (sym c.as_slice-3.ensures.value)
    (subst (λ (count : ℕ). All (λ row. All (λ number. number < count) row) (graph_of exits))
    (sym c.len-count.ensures.len)
    (∥∥₁_elim c.args.pairs.now.numbered (Prim.hlevel logic.props) (λ it.
    exits_within program nodes it.0 c.args.pairs.now.pairs (graph_of exits) (c.in_ok-exits.ensures it.0 it.1))))

pub returns : goal.returns
returns c component are keeps =
    let program = program_tree c.args.program.now.checked.named in
    let nodes = c.enter.new.nodes.keys in
    let pairs = c.args.pairs.now.pairs in
    let entries = c.in_ok-entries.entries.items in
    let exits = c.in_ok-exits.exits.items in
    record {
      component = component;
      keeps = keeps;
      count = sym (zip_length _ pairs entries (c.in_ok-entries.ensures component are));
      linked = linked_by_tables program nodes component pairs entries (graph_of exits)
          (c.in_ok-entries.ensures component are) (c.in_ok-exits.ensures component are);
      members = subst (λ (list : List ℕ). AreMembers list (graph_of c.in_ok-members.members.items))
          c.as_slice.ensures.value c.in_ok-members.ensures;
      before = subst (λ (list : List ℕ). AreBefore list (graph_of exits) (graph_of c.in_ok-before.before.items))
          c.as_slice-2.ensures.value
          (subst (λ (rows : List (Vec ℕ Global)). AreBefore c.as_slice-2.result.now (graph_of rows)
          (graph_of c.in_ok-before.before.items)) c.as_slice-3.ensures.value c.in_ok-before.ensures);
    }
