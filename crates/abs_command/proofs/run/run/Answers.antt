use Rattle.std.proofs.Common.{◌∷◌, [], arith, refl, sym, ap, ◌∙◌, subst, length}
use Rattle.std.proofs.lemmas.List.{length-append}
use Rattle.abs_program.specs.NamedViews.{program_tree}
use Rattle.config_state.specs.ConfigViews.{configuration}
use Rattle.future_cells.proofs.StepLemmas.{tasks_listed}
use Rattle.run_history.proofs.ReplayLemmas.{run_of_none}
use Rattle.run_history.proofs.RunLemmas.{last_there, there_in_code}
use Rattle.run_history.specs.Turns.{last_of, IsNext, IsInTurn}
use Rattle.abs_command.proofs.RunLemmas.{IsNext-has_event, IsNext-there, last_of-more, in_turn_none, in_turn_more, next_of_run, ran_more, run_ended, moved_in_set}
use Rattle.abs_command.proofs.run.run.Goals as goal

pub loop-alloc-init : goal.loop-alloc-init
loop-alloc-init c =
    let none = c.in_ok-history.ensures.empty in
    record {
      legal = rw none (run_of_none _ _ _ c.in_ok-config.ensures.is_first c.new-2.ensures.items);
      in_turn = subst (IsInTurn (program_tree c.args.program.now)) (sym none)
          (in_turn_none (program_tree c.args.program.now));
      of_program = c.in_ok-config.ensures.of_program;
      stands = c.in_ok-ready.ensures;
      last_is = rw none refl;
      few = rw none (omega arith);
      room = omega (arith, c.in_ok-history.ensures.room);
    }

pub next_task-requires : goal.next_task-requires
next_task-requires c = record {
  there = λ task is.
      there_in_code c.args.program.now.symbols c.loop-alloc.config task
      (last_there _ c.loop-alloc.history.tasks _ task c.loop-alloc.invariant.legal
      (sym c.loop-alloc.invariant.last_is ∙ is));
}

pub returns-in_default : goal.returns-in_default
returns-in_default c =
    let so_far = c.loop-alloc.invariant in
    run_ended _ _ _ c.loop-alloc.config c.loop-alloc.history c.loop-alloc.lines c.ended.result so_far.legal
    so_far.in_turn so_far.few c.ended.ensures.config c.ended.ensures.history c.ended.ensures.lines
    (c.ended.ensures.end c.args.program.now.symbols (program_tree c.args.program.now) c.args.limit so_far.few
    (λ unfinished. (
      so_far.few,
      (λ full. omega arith),
      unfinished,
      c.in_default.ensures.none
          (program_tree c.args.program.now) c.args.program.now.symbols (tasks_listed _ _ _ so_far.stands),
    )))

pub step-requires-clause-there : goal.step-requires-clause-there
step-requires-clause-there c =
    let next = next_of_run (program_tree c.args.program.now) c.args.program.now.symbols c.loop-alloc.config
    c.loop-alloc.ready c.loop-alloc.history.tasks c.loop-alloc.lines c.loop-alloc.last c.in-Some.task
    c.in-Some.ensures.some c.loop-alloc.invariant.legal c.loop-alloc.invariant.stands
    c.loop-alloc.invariant.last_is in
    IsNext-there (program_tree c.args.program.now) c.args.program.now.symbols c.loop-alloc.config c.in-Some.task
    c.loop-alloc.last next

pub step-requires-clause-has_step : goal.step-requires-clause-has_step
step-requires-clause-has_step c =
    let next = next_of_run (program_tree c.args.program.now) c.args.program.now.symbols c.loop-alloc.config
    c.loop-alloc.ready c.loop-alloc.history.tasks c.loop-alloc.lines c.loop-alloc.last c.in-Some.task
    c.in-Some.ensures.some c.loop-alloc.invariant.legal c.loop-alloc.invariant.stands
    c.loop-alloc.invariant.last_is in
    IsNext-has_event (program_tree c.args.program.now)
    (configuration c.args.program.now.symbols c.loop-alloc.config) c.in-Some.task c.loop-alloc.last next

pub after-requires-clause-room : goal.after-requires-clause-room
after-requires-clause-room c = c.in_ok-reserve.ensures.room

pub after-requires-clause-moved : goal.after-requires-clause-moved
after-requires-clause-moved c =
    let program = program_tree c.args.program.now in
    let names = c.args.program.now.symbols in
    let config = configuration names c.loop-alloc.config in
    let next = next_of_run (program_tree c.args.program.now) c.args.program.now.symbols c.loop-alloc.config
    c.loop-alloc.ready c.loop-alloc.history.tasks c.loop-alloc.lines c.loop-alloc.last c.in-Some.task
    c.in-Some.ensures.some c.loop-alloc.invariant.legal c.loop-alloc.invariant.stands
    c.loop-alloc.invariant.last_is in
    let has = IsNext-has_event program config c.in-Some.task c.loop-alloc.last next in
    moved_in_set program names c.loop-alloc.config c.step.new.config c.in-Some.task c.in_ok-did.did c.loop-alloc.ready
    c.reserve.new.self c.loop-alloc.invariant.stands c.in_ok-reserve.ensures.rest has c.in_ok-did.ensures.config
    c.in_ok-did.ensures.kind

pub loop-alloc-preserved : goal.loop-alloc-preserved
loop-alloc-preserved c =
    let program = program_tree c.args.program.now in
    let config = configuration c.args.program.now.symbols c.loop-alloc.config in
    let history = c.loop-alloc.history.tasks in
    let task = c.in-Some.task in
    let so_far = c.loop-alloc.invariant in
    let next = next_of_run (program_tree c.args.program.now) c.args.program.now.symbols c.loop-alloc.config
    c.loop-alloc.ready c.loop-alloc.history.tasks c.loop-alloc.lines c.loop-alloc.last c.in-Some.task
    c.in-Some.ensures.some c.loop-alloc.invariant.legal c.loop-alloc.invariant.stands
    c.loop-alloc.invariant.last_is in
    let has = IsNext-has_event program config task c.loop-alloc.last next in
    let more = c.push.ensures.tasks in
    let longer = length-append history (task ∷ []) in
    record {
      legal = rw more (ran_more program history task _ _ _ so_far.legal has c.in_ok-did.ensures.config
          c.in_ok-did.ensures.lines);
      in_turn = subst (IsInTurn program) (sym more) (in_turn_more program history task _ so_far.in_turn so_far.legal
          (subst (IsNext program config task) so_far.last_is next));
      of_program = c.step.ensures.of_program;
      stands = c.after.ensures.stands;
      last_is = sym (ap last_of more ∙ last_of-more history task);
      few = omega (arith, ap length more, longer);
      room = omega (arith, ap length more, longer, c.push.ensures.spare);
    }

pub returns : goal.returns
returns c =
    let so_far = c.loop-alloc.invariant in
    run_ended _ _ _ c.loop-alloc.config c.loop-alloc.history c.loop-alloc.lines c.ended-2.result so_far.legal
    so_far.in_turn so_far.few c.ended-2.ensures.config c.ended-2.ensures.history c.ended-2.ensures.lines
    (c.ended-2.ensures.end c.args.program.now.symbols (program_tree c.args.program.now) c.args.limit so_far.few
    (λ unfinished. (omega arith, unfinished)))
