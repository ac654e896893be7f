-- The nodes are grouped by the numbers of their groups.
use Rattle.std.proofs.Common.{ℕ, ◌<◌, All, List, sym, subst}
use Rattle.abs_graph.specs.Views.{graph_of}
use Rattle.circularity_test.proofs.GroupLemmas.{are_grouped}
use Rattle.circularity_test.proofs.NodeLemmas.{numbers_within}
use Rattle.circularity_test.specs.Network.{AreMembers, AreNumbers, group_of}
use Rattle.circularity_test.specs.declared.network.Node.{Node}
use Rattle.circularity_test.proofs.network.Groups.new.Goals as goal

pub members_of-requires : goal.members_of-requires
members_of-requires c =
    let numbers = c.in_ok-numbers.numbers.items in
    subst (λ (list : List ℕ). All (λ number. number < c.len.result) list) (sym c.as_slice-2.ensures.value)
    (subst (λ (count : ℕ). All (λ number. number < count) numbers) (sym c.len.ensures.len)
    (numbers_within group_of c.enter.new.groups.keys c.as_slice.result.now numbers c.in_ok-numbers.ensures))

pub returns : goal.returns
returns c =
    let numbers = c.in_ok-numbers.numbers.items in
    are_grouped c.args.nodes.now.keys (record { groups = c.enter.new.groups; rows = c.in_ok-rows.rows }) numbers
    (subst (λ (nodes : List Node). AreNumbers group_of nodes c.enter.new.groups.keys numbers) c.as_slice.ensures.keys
    c.in_ok-numbers.ensures)
    (subst (λ (list : List ℕ). AreMembers list (graph_of c.in_ok-rows.rows.items)) c.as_slice-2.ensures.value
    c.in_ok-rows.ensures)
