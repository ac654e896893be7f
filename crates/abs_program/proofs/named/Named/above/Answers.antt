use Rattle.std.proofs.Common.{ap}
use Rattle.abs_graph.proofs.ListedLemmas.{listed_as}
use Rattle.abs_graph.specs.Graphs.{Graph, reaches}
use Rattle.abs_program.specs.Supertypes.{is_below}
use Rattle.abs_program.proofs.named.Named.above.Goals as goal

pub returns : goal.returns
unfolding is_below
returns c =
    listed_as c.reached.result c.reached.ensures
    (λ other. ap (λ (graph : Graph). reaches graph c.args.declaration other) c.args.self.now.has_tables.supertypes_are)
