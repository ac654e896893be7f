-- Each pair gets its exits.
use Rattle.std.proofs.Common.{ℕ, ◌+◌, ◌≤◌, List, sym, subst, take}
use Rattle.std.specs.List.{AllZip}
use Rattle.std.specs.declared.alloc.Global.{Global}
use Rattle.std.specs.declared.vec.Vec.{Vec}
use Rattle.abs_graph.specs.Views.{graph_of}
use Rattle.circularity_test.proofs.NetworkLemmas.{exits_all, exits_more}
use Rattle.circularity_test.proofs.NodeLemmas.{zip_both}
use Rattle.circularity_test.specs.Network.{AreLed, LeadsAs, nodes_in, program_of}
use Rattle.circularity_test.proofs.network.Ways.exits.Goals as goal

pub loop-index-preserved : goal.loop-index-preserved
loop-index-preserved c component are =
    let program = program_of c.args.self.now in
    let nodes = nodes_in c.args.self.now in
    let pairs = c.args.pairs.now.pairs in
    let pair = c.at.result.now in
    let number = zip_both _ pairs c.args.pairs.now.components.items are c.loop-index.index pair c.component.result
    c.at.ensures c.component.ensures in
    let so_far = take (c.loop-index.index + 1) pairs in
    subst (λ (rows : List (Vec ℕ Global)). AllZip (LeadsAs program nodes component) so_far (graph_of rows))
    (sym {A = List (Vec ℕ Global)} c.in_ok-push.ensures.items)
    (exits_more program nodes component pairs c.loop-index.exits.items c.loop-index.index pair
    c.in_ok-numbers.field-0 c.at.ensures
    (subst (λ its. AreLed program nodes pair.target its c.in_ok-numbers.field-0.items) (sym number)
    c.in_ok-numbers.ensures) (c.loop-index.invariant component are))

pub returns : goal.returns
returns c component are =
    exits_all (program_of c.args.self.now) (nodes_in c.args.self.now) component c.args.pairs.now.pairs
    (graph_of c.loop-index.exits.items) c.loop-index.index
    (subst (λ count. count ≤ c.loop-index.index) c.len-index-end.ensures.count c.loop-index-test.false)
    (c.loop-index.invariant component are)
