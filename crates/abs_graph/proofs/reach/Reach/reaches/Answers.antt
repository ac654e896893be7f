use Rattle.std.proofs.Common.{◌∙◌, List, Bool, ap}
use Rattle.abs_graph.specs.Graphs.{Graph, reaches, is_marked}
use Rattle.abs_graph.specs.Views.{graph_of}
use Rattle.abs_graph.proofs.RootReachLemmas.{reaches_between, reaches_within, reaches_marked_itself}
use Rattle.abs_graph.proofs.reach.Reach.reaches.Goals as goal

pub returns-then-root-goal : goal.returns-then-root-goal
returns-then-root-goal c =
    let found = c.self.inside.components in
    c.reaches.ensures
    ∙ (reaches_between (graph_of found.graph.items) found.roots.items found.numbers.items c.self.inside.closure
    found.are c.self.invariant.0 c.args.one c.args.other c.root-root.result c.root-goal.result c.root-root.ensures
    c.root-goal.ensures c.if-root-goal.true
    ∙ ap (λ (graph : Graph). reaches graph c.args.one c.args.other) c.self.view_is)

pub returns-then-one-other : goal.returns-then-one-other
returns-then-one-other c =
    let found = c.self.inside.components in
    reaches_within (graph_of found.graph.items) found.roots.items found.numbers.items found.are c.args.one c.args.other
    c.root-root.result c.root-goal.result c.root-root.ensures c.root-goal.ensures c.if-root-goal.false
    c.if-one-other.true
    ∙ ap (λ (graph : Graph). reaches graph c.args.one c.args.other) c.self.view_is

pub returns : goal.returns
returns c =
    let graph = graph_of c.self.inside.components.graph.items in
    c.is_marked.ensures
    ∙ (ap (λ (marks : List Bool). is_marked marks c.args.one) (c.as_slice.ensures.value ∙ c.self.invariant.1)
    ∙ (reaches_marked_itself graph c.args.one c.args.other c.if-one-other.false
    ∙ ap (λ (g : Graph). reaches g c.args.one c.args.other) c.self.view_is))
