use Rattle.std.proofs.Common.{◌≡◌, ap, ◌∙◌}
use Rattle.std.proofs.lemmas.List.{with_items_is}
use Rattle.step_rules.specs.Placing.{frames_of}
use Rattle.step_rules.proofs.PlacingLemmas.{enters-objects, goes_on-objects}
use Rattle.step_rules.proofs.turns.take_turn.Goals as goal

pub returns-in-GoesOn-clause-objects : goal.returns-in-GoesOn-clause-objects
returns-in-GoesOn-clause-objects c = λ names index change is.
    let before : c.deref_mut.result.now ≡ c.args.cell.now.frames = c.deref_mut.ensures.value ∙ c.frames.view_is in
    let after : c.deref_mut-in-GoesOn.result.now ≡ c.advance.new.frames = c.deref_mut-in-GoesOn.ensures.value
    ∙ with_items_is c.frames.inside.items c.advance.new.frames (c.advance.auto.frames ∙ c.deref_mut.ensures.len) in
    goes_on-objects names c.args.objects.now c.put_in_frame.new.objects index c.args.cell.now c.args.turn _ _ _ change
    c.in-GoesOn.is is (λ frame others order. c.put_in_frame.ensures.objects names
    (record frame { next = c.in-GoesOn.next }) others
    (ap (frames_of names) after ∙ c.advance.ensures names frame others (ap (frames_of names) before ∙ order)))

pub returns-in_ok-enter-in-Enters-clause-objects : goal.returns-in_ok-enter-in-Enters-clause-objects
returns-in_ok-enter-in-Enters-clause-objects c = λ names index change is.
    enters-objects names c.args.objects.now index c.args.cell.now c.args.turn _ _ change c.in-Enters.is is
