use Rattle.std.proofs.Common.{◌∙◌, ap}
use Rattle.abs_graph.specs.Graphs.{Graph, reaches}
use Rattle.abs_program.specs.Supertypes.{is_below}
use Rattle.abs_program.proofs.named.Named.is_below.Goals as goal

pub returns : goal.returns
unfolding is_below
returns c =
    c.reaches.ensures
    ∙ ap (λ (graph : Graph). reaches graph c.args.one c.args.other) c.args.self.now.has_tables.supertypes_are
