use Rattle.std.proofs.Common.{List, ◌∷◌, ap, ◌∙◌}
use Rattle.abs_values.specs.ValueTrees.{ValueTree}
use Rattle.abs_values.specs.ValueViews.{value_tree}
use Rattle.config_state.specs.Configurations.{FrameState}
use Rattle.config_state.specs.Views.{frame_state}
use Rattle.step_rules.specs.Targets.{slots_after}
use Rattle.step_rules.proofs.PlacingLemmas.{last-set}
use Rattle.step_rules.proofs.turns.put_in_frame.Goals as goal

pub returns-in-Some-clause-frames : goal.returns-in-Some-clause-frames
returns-in-Some-clause-frames c = λ names frame others order.
    let frames = c.args.frames.now in
    let now = c.in-Some.frame.now in
    let last = last-set (frame_state names) frames now (record now { slots = c.put_in_object.new.slots })
    frame others order c.in-Some.ensures.item.1 in
    let stored = λ (one : FrameState). record one {
      slots = slots_after c.args.target (value_tree c.args.value) one.slots;
    } ∷ others in
    last.changed
    ∙ (ap (λ (slots : List ValueTree). record (frame_state names now) { slots = slots } ∷ others)
    c.put_in_object.ensures.slots ∙ ap stored last.entry_is)
