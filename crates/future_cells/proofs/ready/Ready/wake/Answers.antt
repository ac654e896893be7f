use denote.Struct.Props as logic
use mathlib.Core.Logic.{∥∥₁_elim, ∥∥₁_map}
use Rattle.std.proofs.Common.{arith, ap, sym, ◌∙◌}
use Rattle.std.proofs.lemmas.Option.{slice_get_within}
use Rattle.abs_program.specs.NamedViews.{program_tree}
use Rattle.config_state.specs.ConfigViews.{configuration}
use Rattle.future_cells.specs.Posts.{waits_by}
use Rattle.future_cells.specs.Following.{waiting_count}
use Rattle.list_facts.proofs.EntryLemmas.{slice_get-there}
use Rattle.future_cells.proofs.StandsForLemmas.{stands_for, ∥∥₁_map₃}
use Rattle.future_cells.proofs.WakeLemmas.{agrees_count, agrees_there, standing_past, waiter_found, waiting_count-falls, waits_not_ended, wakes_all, wakes_one}
use Rattle.future_cells.proofs.ready.Ready.wake.Goals as goal

pub loop-waiter-init : goal.loop-waiter-init
loop-waiter-init c = record { agrees = c.requires.agrees; spare = omega arith }

pub waiter-requires : goal.waiter-requires
waiter-requires c =
    ∥∥₁_elim c.loop-waiter.invariant.agrees (Prim.hlevel logic.props) (λ agrees.
    omega (arith, agrees_there _ _ _ _ agrees, agrees.post_for_each))

pub standing_of-requires-clause-there : goal.standing_of-requires-clause-there
standing_of-requires-clause-there c =
    let post = waiter_found c.loop-waiter.self.posts c.args.ended c.in-Some.waiter c.in-Some.ensures.some in
    ∥∥₁_elim c.loop-waiter.invariant.agrees (Prim.hlevel logic.props) (λ agrees.
    omega (
      arith,
      slice_get_within c.loop-waiter.self.posts c.in-Some.waiter post.0 post.1,
      agrees_count _ c.args.program.now.symbols c.args.config.now _ _ agrees,
    ))

pub stand-requires-clause-there : goal.stand-requires-clause-there
stand-requires-clause-there c =
    let post = waiter_found c.loop-waiter.self.posts c.args.ended c.in-Some.waiter c.in-Some.ensures.some in
    slice_get_within c.loop-waiter.self.posts c.in-Some.waiter post.0 post.1

pub stand-requires-clause-open : goal.stand-requires-clause-open
stand-requires-clause-open c post posted =
    waits_not_ended c.args.ended post.standing (ap (waits_by c.args.ended) (sym posted) ∙ c.in-Some.ensures.some)

pub stand-requires-clause-future_there : goal.stand-requires-clause-future_there
stand-requires-clause-future_there c future waits =
    ∥∥₁_elim c.loop-waiter.invariant.agrees (Prim.hlevel logic.props) (λ agrees.
    omega (
      arith,
      c.standing_of.ensures.future_there future waits,
      agrees_count _ c.args.program.now.symbols c.args.config.now _ _ agrees,
    ))

pub loop-waiter-preserved : goal.loop-waiter-preserved
loop-waiter-preserved c =
    let ready = c.loop-waiter.self in
    let post = waiter_found ready.posts c.args.ended c.in-Some.waiter c.in-Some.ensures.some in
    record {
      agrees = ∥∥₁_map c.loop-waiter.invariant.agrees (λ agrees.
          let program = program_tree c.args.program.now in
          let config = configuration c.args.program.now.symbols c.args.config.now in
          let task = slice_get-there config.tasks c.in-Some.waiter (omega (
            arith,
            agrees.post_for_each,
            slice_get_within ready.posts c.in-Some.waiter post.0 post.1,
          )) in
          wakes_one program config c.args.ended c.in-Some.waiter ready c.stand.new.self task.0 post.0
          c.standing_of.result agrees task.1 post.1 (c.stand.ensures.posts post.0 post.1) c.stand.ensures.holders
          (c.standing_of.ensures.standing task.0 task.1));
      spare = omega (arith, c.loop-waiter.invariant.spare, c.stand.ensures.spare);
    }

pub loop-waiter-smaller : goal.loop-waiter-smaller
loop-waiter-smaller c =
    let ready = c.loop-waiter.self in
    let post = waiter_found ready.posts c.args.ended c.in-Some.waiter c.in-Some.ensures.some in
    let now = record post.0 { standing = c.standing_of.result } in
    ∥∥₁_elim c.loop-waiter.invariant.agrees (Prim.hlevel logic.props) (λ agrees.
    let program = program_tree c.args.program.now in
    let config = configuration c.args.program.now.symbols c.args.config.now in
    let task = slice_get-there config.tasks c.in-Some.waiter (omega (
      arith,
      agrees.post_for_each,
      slice_get_within ready.posts c.in-Some.waiter post.0 post.1,
    )) in
    let past = standing_past program config c.args.ended agrees.task task.0 c.standing_of.result agrees.there
    agrees.has_ended (c.standing_of.ensures.standing task.0 task.1) in
    omega (
      arith,
      ap (waiting_count c.args.ended) (c.stand.ensures.posts post.0 post.1),
      waiting_count-falls ready.posts c.args.ended c.in-Some.waiter post.0 now post.1 post.2 past,
    ))

pub returns-clause-stands : goal.returns-clause-stands
returns-clause-stands c =
    let program = program_tree c.args.program.now in
    let names = c.args.program.now.symbols in
    let config = configuration names c.args.config.now in
    let ready = c.loop-waiter.self in
    ∥∥₁_map₃ c.loop-waiter.invariant.agrees c.args.config.now.well_formed c.requires.of_program
    (λ agrees formed of_program.
    stands_for program config ready (formed names) of_program c.tell.ensures agrees.post_for_each
    (wakes_all program config c.args.ended ready agrees c.in_default.ensures.none) agrees.holders_are)
