use Rattle.std.proofs.Common.{◌∙◌, ap}
use Rattle.saturation.proofs.UseKeyLemmas.{lookup-key}
use Rattle.saturation.proofs.uses.Uses.of.Goals as goal
use Rattle.saturation.specs.Uses.{found_uses, uses_at}

pub returns-in-Some : goal.returns-in-Some
unfolding uses_at
returns-in-Some c =
    c.as_slice.ensures.value
    ∙ ap found_uses (c.in-Some.ensures.value ∙ lookup-key c.args.body c.args.location c.args.self.now.uses.entries)

pub returns-in-None : goal.returns-in-None
unfolding uses_at
returns-in-None c =
    ap found_uses (c.in-None.ensures.value ∙ lookup-key c.args.body c.args.location c.args.self.now.uses.entries)
