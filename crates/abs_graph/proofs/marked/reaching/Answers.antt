use Rattle.std.proofs.Common.{List, Bool, ◌≡◌, ◌∙◌, length, arith}
use Rattle.std.proofs.lemmas.List.{with_items_is}
use Rattle.abs_graph.proofs.ReachingLemmas.{search_found}
use Rattle.abs_graph.proofs.marked.reaching.Goals as goal

pub returns : goal.returns
returns c =
    let found : List Bool = c.follow_all.new.found in
    let long : length found ≡ c.in_ok-found.found.len = omega arith in
    let whole = with_items_is c.in_ok-found.found found long in
    whole
    ∙ search_found c.args.graph.now c.args.marked.now c.in_ok-found.found.items c.as_mut_slice.result.now found
    c.as_slice-3.result.now c.requires.nodes c.in_ok-found.ensures c.as_mut_slice.ensures.value
    c.in_ok-follow_all.ensures c.follow_all.auto.found (c.as_slice-3.ensures.value ∙ whole)
    c.if-not-is_closed.ensures
