use Rattle.std.proofs.Common.{◌≡◌, slice_get, Some, rules, ap, ◌∙◌}
use Rattle.std.proofs.lemmas.Option.{slice_get_read}
use Rattle.config_state.specs.declared.config.Config.{Config}
use Rattle.step_rules.specs.Plans.{plan_of_task}
use Rattle.step_rules.proofs.waits.take.Goals as goal

pub returns-in-None : goal.returns-in-None
unfolding plan_of_task
returns-in-None c = λ names index frames.
    let cogs : c.deref.result.now ≡ c.args.config.now.cogs =
    c.deref.ensures.value ∙ ap (λ (config : Config). config.cogs) c.config.view_is in
    let there : slice_get c.deref.result.now c.args.cell.now.cog ≡ Some c.in_ok-cog.cog.now =
    search (rules, slice_get_read) in
    rw (c.of.ensures, ← cogs, there, c.in-None.is)
