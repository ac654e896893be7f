-- A kind leads to the node of its cog, and to those of its group that it reaches.
use Rattle.std.proofs.Common.{subst}
use Rattle.circularity_test.proofs.EdgeLemmas.{are_led}
use Rattle.circularity_test.specs.Adding.{Adds}
use Rattle.circularity_test.specs.Network.{IsCogNode, nodes_in, program_of}
use Rattle.circularity_test.proofs.network.Ways.numbers.Goals as goal

pub returns : goal.returns
returns c =
    let nodes = nodes_in c.args.self.now in
    are_led (program_of c.args.self.now) nodes c.args.target.now.kind.now c.args.target.now.component
    c.alike-among.result.now c.add_cog.new.numbers.items
    c.add_reached.new.numbers.items
    (subst (λ start. Adds (IsCogNode nodes c.args.target.now.kind.now c.args.target.now.component) start c.add_cog.new.numbers.items)
    c.in_ok-numbers.ensures.items c.add_cog.ensures.added)
    c.add_reached.ensures (c.alike-among.ensures nodes c.requires)
