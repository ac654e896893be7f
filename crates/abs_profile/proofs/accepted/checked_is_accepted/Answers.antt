use Rattle.std.proofs.Math.Logic.{∥∥₁_map}
use mathlib.Core.Logic.{∥∥₁_elim, ∥∥₁_prop}
use Rattle.abs_profile.proofs.accepted.checked_is_accepted.Goals as goal

pub returns : goal.returns
returns c =
    let program = c.args.program.now in
    ∥∥₁_elim program.named.is_whole ∥∥₁_prop (λ whole.
    ∥∥₁_map program.named.knows_names (λ names. record {
      whole = whole;
      names = names;
      well_typed = program.accepted;
      in_profile = c.requires;
    }))
