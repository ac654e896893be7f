use Rattle.std.proofs.Common.{◌∷◌, ap, ◌∙◌}
use Rattle.config_state.specs.Configurations.{FrameState}
use Rattle.config_state.specs.Views.{frame_state}
use Rattle.step_rules.proofs.PlacingLemmas.{last-set}
use Rattle.step_rules.proofs.turns.advance.Goals as goal

pub returns-in-Some : goal.returns-in-Some
returns-in-Some c = λ names frame others order.
    let last = last-set (frame_state names) c.args.frames.now c.in-Some.frame.now
    (record c.in-Some.frame.now { next = c.args.next }) frame others order c.in-Some.ensures.item.1 in
    last.changed ∙ ap (λ (one : FrameState). record one { next = c.args.next } ∷ others) last.entry_is
