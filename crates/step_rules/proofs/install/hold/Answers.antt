use Rattle.std.proofs.Common.{get_or, None, sym, arith}
use Rattle.std.proofs.lemmas.Option.{slice_get-get_or, slice_get_past}
use Rattle.config_state.specs.declared.cog.Cog.{Cog}
use Rattle.step_rules.proofs.PlacingLemmas.{updated-past, updated-there}
use Rattle.step_rules.proofs.install.hold.Goals as goal

pub returns-then-index-cogs : goal.returns-then-index-cogs
returns-then-index-cogs c =
    let cogs = c.args.cogs.now in
    let at = c.args.index in
    let default : Cog = record { parent = None; place = 0; holder = None } in
    sym (updated-there (λ (cog : Cog). record cog { holder = c.args.holder }) cogs at (get_or cogs at default)
    (slice_get-get_or cogs at default (omega arith)))

pub returns-else-index-cogs : goal.returns-else-index-cogs
returns-else-index-cogs c = sym (updated-past (λ (cog : Cog). record cog { holder = c.args.holder }) c.args.cogs.now
    c.args.index (slice_get_past c.args.cogs.now c.args.index (omega arith)))
