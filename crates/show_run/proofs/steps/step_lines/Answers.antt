use Rattle.std.proofs.Common.{ℕ, Option, IfSome, subst}
use Rattle.abs_program.specs.NamedViews.{program_tree}
use Rattle.config_state.specs.ConfigViews.{configuration}
use Rattle.run_history.specs.Turns.{HasEvent}
use Rattle.abs_command.proofs.RunLemmas.{moved_in_set}
use Rattle.show_run.proofs.steps.step_lines.Goals as goal

-- the ready set can follow the event
pub after-requires-clause-moved : goal.after-requires-clause-moved
after-requires-clause-moved c =
    let program = program_tree c.args.program.now in
    let names = c.args.program.now.symbols in
    moved_in_set program names c.loop-event.config c.make_event.new.config c.in-Some.task c.in_ok-did.did
    c.loop-event.ready c.reserve.new.self c.loop-event.invariant.stands c.reserve.ensures.rest
    (subst (λ (found : Option ℕ). IfSome found (HasEvent program (configuration names c.loop-event.config))) c.in-Some.is
    c.in_ok-task.ensures.has_step) c.in_ok-did.ensures.config c.in_ok-did.ensures.kind
