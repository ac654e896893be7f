use Rattle.std.proofs.Common.{arith}
use denote.Struct.Props as logic
use mathlib.Core.Logic.{∥∥₁_elim, ∥∥₁_map}
use Rattle.std.proofs.lemmas.List.{length-map}
use Rattle.abs_program.specs.NamedViews.{program_tree}
use Rattle.config_state.specs.ConfigViews.{configuration}
use Rattle.config_state.specs.Views.{task_state}
use Rattle.list_facts.proofs.EntryLemmas.{slice_get-there}
use Rattle.future_cells.proofs.BuildLemmas.{stands_none, stands_more, stands_all, going_open, posts_count}
use Rattle.future_cells.proofs.StandsForLemmas.{stands_for, ∥∥₁_map₃}
use Rattle.future_cells.proofs.ready.Ready.stand_all.Goals as goal

pub loop-task-init : goal.loop-task-init
loop-task-init c = ∣ stands_none (program_tree c.args.program.now) c.args.program.now.symbols c.args.config.now
    c.args.self.now c.requires.posts c.requires.holders ∣₁

pub stand-requires-clause-there : goal.stand-requires-clause-there
stand-requires-clause-there c =
    ∥∥₁_elim c.loop-task.invariant (Prim.hlevel logic.props) (λ so_far.
    omega (
      arith,
      posts_count (program_tree c.args.program.now) c.args.program.now.symbols c.args.config.now
          c.loop-task.task c.loop-task.self so_far,
      c.loop-task-test.true,
      c.len-task-end.ensures.is,
    ))

pub stand-requires-clause-open : goal.stand-requires-clause-open
stand-requires-clause-open c post posted ended =
    ∥∥₁_elim c.loop-task.invariant (Prim.hlevel logic.props) (λ so_far.
    going_open post (so_far.going c.loop-task.task post posted (omega arith)) ended)

pub stand-requires-clause-future_there : goal.stand-requires-clause-future_there
stand-requires-clause-future_there c future waits =
    ∥∥₁_elim c.loop-task.invariant (Prim.hlevel logic.props) (λ so_far.
    omega (
      arith,
      posts_count (program_tree c.args.program.now) c.args.program.now.symbols c.args.config.now
          c.loop-task.task c.loop-task.self so_far,
      c.standing_of.ensures.future_there future waits,
    ))

pub loop-task-preserved : goal.loop-task-preserved
loop-task-preserved c =
    ∥∥₁_map c.loop-task.invariant (λ so_far.
    let program = program_tree c.args.program.now in
    let config = configuration c.args.program.now.symbols c.args.config.now in
    let count = posts_count program c.args.program.now.symbols c.args.config.now c.loop-task.task c.loop-task.self so_far in
    let post = slice_get-there c.loop-task.self.posts c.loop-task.task
    (omega (arith, count, c.loop-task-test.true, c.len-task-end.ensures.is)) in
    let task = slice_get-there config.tasks c.loop-task.task
    (omega (arith, so_far.post_for_each, count, c.loop-task-test.true, c.len-task-end.ensures.is)) in
    stands_more program config c.loop-task.task c.loop-task.self c.stand.new.self task.0 post.0 c.standing_of.result
    so_far task.1 post.1 (c.stand.ensures.posts post.0 post.1) c.stand.ensures.holders
    (c.standing_of.ensures.standing task.0 task.1))

pub returns : goal.returns
returns c =
    let program = program_tree c.args.program.now in
    let names = c.args.program.now.symbols in
    let config = configuration names c.args.config.now in
    let ready = c.loop-task.self in
    ∥∥₁_map₃ c.loop-task.invariant c.args.config.now.well_formed c.requires.of_program (λ so_far formed of_program.
    stands_for program config ready (formed names) of_program c.tell.ensures so_far.post_for_each
    (stands_all program config c.loop-task.task ready so_far (omega (
      arith,
      c.loop-task-test.false,
      c.len-task-end.ensures.is,
      length-map c.args.config.now.tasks (task_state names),
    ))) so_far.holders_are)
