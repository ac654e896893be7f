use Rattle.std.proofs.Common.{◌≡◌, ◌∙◌, ap, refl, subst, slice_get, length, Some}
use Rattle.std.proofs.lemmas.Option.{slice_get_read}
use Rattle.abs_graph.specs.Graphs.{successors}
use Rattle.abs_graph.specs.Views.{graph_of}
use Rattle.circularity_test.specs.Distances.{AreNear, distance_of}
use Rattle.circularity_test.specs.Routes.{IsFirst, IsNear}
use Rattle.circularity_test.proofs.WayLemmas.{none_back, way_is_back, ways_of, away_first}
use Rattle.circularity_test.proofs.network.Network.way_back.Goals as goal

pub returns-in_default-nearest : goal.returns-in_default-nearest
returns-in_default-nearest c program pairs get is rises gotten gets =
    let starts = c.row-starts.result.now in
    let far = distance_of c.in_ok-far.far in
    let goal = c.in-Some.goal.now in
    let same = c.row-starts.ensures ∙ ap (λ rows. successors (graph_of rows) c.args.first) c.as_slice.ensures.value in
    let waits = subst (λ list. slice_get list c.args.first ≡ Some goal) c.deref.ensures.value
    (slice_get_read c.deref.result.now (length c.deref.result.now) c.args.first goal refl c.in-Some.ensures.lookup.3.0
    c.in-Some.ensures.lookup.1) in
    let near = subst (λ rows. AreNear (graph_of rows) goal starts far) c.as_slice-2.ensures.value c.in_ok-far.ensures in
    none_back program pairs c.args.self.now is c.args.first goal get gotten gets waits starts same far near
    (subst (IsFirst (IsNear far starts)) c.in_default-nearest.is c.nearest.ensures)

pub returns : goal.returns
returns c program pairs get is rises gotten gets =
    let starts = c.row-starts.result.now in
    let far = distance_of c.in_ok-far.far in
    let goal = c.in-Some.goal.now in
    let same = c.row-starts.ensures ∙ ap (λ rows. successors (graph_of rows) c.args.first) c.as_slice.ensures.value in
    let waits = subst (λ list. slice_get list c.args.first ≡ Some goal) c.deref.ensures.value
    (slice_get_read c.deref.result.now (length c.deref.result.now) c.args.first goal refl c.in-Some.ensures.lookup.3.0
    c.in-Some.ensures.lookup.1) in
    let near = subst (λ rows. AreNear (graph_of rows) goal starts far) c.as_slice-2.ensures.value c.in_ok-far.ensures in
    let found = subst (IsFirst (IsNear far starts)) c.in-Some-nearest.is c.nearest.ensures in
    let ways = ways_of program pairs c.args.self.now is c.args.first goal get gotten gets waits starts same far near in
    way_is_back program pairs c.args.self.now is c.args.first goal get gotten gets waits starts same far near rises
    c.in-Some-nearest.distance found c.in_ok-chain.chain
    (c.in_ok-chain.ensures goal starts ways
    (away_first c.args.self.now goal starts far ways c.args.first c.in-Some-nearest.distance same found))
