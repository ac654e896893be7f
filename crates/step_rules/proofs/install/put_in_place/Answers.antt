use Rattle.std.proofs.Common.{◌≡◌, length, ap, ◌∙◌, arith}
use Rattle.std.proofs.lemmas.List.{with_items_is}
use Rattle.std.proofs.lemmas.Option.{slice_get_read}
use Rattle.std.proofs.lemmas.Result.{err_from_is_err_and}
use Rattle.step_rules.specs.Plans.{ForFrame}
use Rattle.step_rules.proofs.InstallLemmas.{placed}
use Rattle.step_rules.proofs.install.put_in_place.Goals as goal

pub returns-in_err-take_turn-clause-memory : goal.returns-in_err-take_turn-clause-memory
returns-in_err-take_turn-clause-memory c =
    let exit = c.from_residual-in_err-take_turn in
    let failed = err_from_is_err_and exit.result exit.ensures.1 in
    let entered = c.in_err-take_turn.ensures.memory in
    rw failed.1 (ForFrame entered.0 entered.1 entered.2)

pub returns-clause-config : goal.returns-clause-config
returns-clause-config c = λ names change is.
    let room = c.make_room-3.new.items in
    let cell = c.index_mut-cell.result.now in
    let turn = c.in_ok-take_turn.ensures in
    let cogs : c.deref_mut-2.result.now ≡ c.args.cogs.now =
    c.deref_mut-2.ensures.value ∙ (c.make_room.ensures.items ∙ c.cogs.view_is) in
    let objects : c.deref_mut.result.now ≡ c.args.objects.now =
    c.deref_mut.ensures.value ∙ (c.make_room-2.ensures.items ∙ c.objects.view_is) in
    let tasks : room.items ≡ c.args.tasks.now = c.make_room-3.ensures.items ∙ c.tasks.view_is in
    let there = slice_get_read room.items room.len c.args.task cell room.ok.0
    (omega (arith, c.requires.there, room.ok.0, ap length tasks)) c.index_mut-cell.ensures.value in
    let done = placed names c.deref_mut-2.result.now c.deref_mut.result.now c.take_turn.new.objects room.items
    c.args.task c.args.plan cell c.take_turn.new.cell c.holder_after-holder.result there
    (c.holder_after-holder.ensures names c.deref_mut.result.now cell) (turn.task names c.args.task)
    (turn.objects names c.args.task) in
    let now = rw (cogs, objects, tasks) at done in
    rw (
      c.add.ensures,
      with_items_is c.make_room.new.items c.hold.new.cogs (c.hold.auto.cogs ∙ c.deref_mut-2.ensures.len),
      c.hold.ensures,
      cogs,
      c.add-2.ensures,
      with_items_is c.make_room-2.new.items c.take_turn.new.objects
          (c.take_turn.auto.objects ∙ c.deref_mut.ensures.len),
      c.add-3.ensures,
      tasks,
    )
    (now change is)
