use mathlib.Core.Logic.{∥∥₁_map}
use Rattle.std.proofs.Common.{◌≡◌, subst, sym}
use Rattle.abs_program.specs.NamedViews.{program_tree}
use Rattle.config_state.specs.ConfigViews.{configuration}
use Rattle.future_cells.specs.Ready.{KeptReady, able_tasks}
use Rattle.future_cells.specs.Standings.{StandsFor}
use Rattle.future_cells.proofs.StandsForLemmas.{agrees_but, moved-same, stands_after, ∥∥₁_map₃}
use Rattle.future_cells.proofs.ready.Ready.after.Goals.{then-is_finished, else-is_finished}
use Rattle.future_cells.proofs.ready.Ready.after.Goals as goal

pub follow-requires-clause-moved : goal.follow-requires-clause-moved
follow-requires-clause-moved c =
    ∥∥₁_map c.requires.moved (λ moved.
    moved-same (program_tree c.args.program.now) (configuration c.args.program.now.symbols c.args.config.now)
    c.args.task c.args.did.now c.args.self.now c.turn.new.self moved c.turn.ensures.tasks c.turn.ensures.posts
    c.turn.ensures.holders)

pub wake-requires-clause-agrees : goal.wake-requires-clause-agrees
wake-requires-clause-agrees c =
    ∥∥₁_map c.follow.ensures.follows (λ follows.
    agrees_but (program_tree c.args.program.now) (configuration c.args.program.now.symbols c.args.config.now)
    c.args.task c.args.did.now c.follow.new.self follows c.if-is_finished.ensures)

pub returns-clause-stands : goal.returns-clause-stands
returns-clause-stands c =
    let program = program_tree c.args.program.now in
    let names = c.args.program.now.symbols in
    let config = configuration names c.args.config.now in
    elim c.if-is_finished.branch [
      | then-is_finished w ↦
          subst (λ (ready : KeptReady). ∥ StandsFor program config ready ∥₁) (sym w.self-is) w.wake.ensures.stands
      | else-is_finished w ↦
          ∥∥₁_map₃ c.follow.ensures.follows c.args.config.now.well_formed c.requires.of_program
          (λ follows formed of_program.
          let tasks = subst (λ (ready : KeptReady). ready.tasks ≡ able_tasks ready.posts ready.holders) w.self-is
          c.tell.ensures in
          subst (StandsFor program config) (sym w.self-is) (stands_after program config c.args.task c.args.did.now
          c.follow.new.self (formed names) of_program tasks follows w.if-is_finished.ensures))
    ]
