use Rattle.std.proofs.Common.{◌≡◌, slice_get, Some, true, rules, ap, ◌∙◌}
use Rattle.std.proofs.lemmas.Option.{slice_get_read}
use Rattle.abs_values.specs.declared.evaluated.Evaluated.TheVariants.{Good}
use Rattle.config_state.specs.declared.config.Config.{Config}
use Rattle.step_rules.proofs.BlockedLemmas.{task_found}
use Rattle.step_rules.proofs.MoverLemmas.{goes_to}
use Rattle.step_rules.specs.Moves.{names_of, config_of}
use Rattle.step_rules.proofs.waits.get_from.Goals as goal

pub returns-in_ok-share-in-Some-Good-clause-plan : goal.returns-in_ok-share-in-Some-Good-clause-plan
returns-in_ok-share-in-Some-Good-clause-plan c = λ runner point moves.
    let names = names_of c.args.at in
    let tasks : c.deref.result.now ≡ c.args.at.config.now.tasks =
    c.deref.ensures.value ∙ ap (λ (config : Config). config.tasks) c.config.view_is in
    let there : slice_get c.deref.result.now c.args.task ≡ Some c.in-Some.cell.now = search (rules, slice_get_read) in
    let found = task_found names c.args.at.config.now c.args.task c.in-Some.cell.now (rw tasks at there) in
    let outcome : c.in-Some.cell.now.outcome ≡ Some (Good c.in-Some-Good.value) =
    c.in-Some-Good.is ∙ ap Some (rw c.in-Some-Good.is at c.in-Some-Good.field-0-is) in
    let next = c.successor-next.ensures ∙ goes_to c.args.at runner point true moves in
    rw (
      c.store.ensures names (config_of c.args.at) runner,
      next,
      c.target_of.ensures names,
      c.in_ok-share-in-Some-Good.ensures,
      found,
      outcome,
    )
