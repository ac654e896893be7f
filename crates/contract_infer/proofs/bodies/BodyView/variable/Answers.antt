use Rattle.std.proofs.Common.{List, get_or, ap, ◌∙◌}
use Rattle.contract_infer.proofs.ViewLemmas.{slots_let_in, fields_let_in}
use Rattle.contract_terms.specs.Accepts.{AcceptsTree, nothing}
use Rattle.contract_infer.proofs.bodies.BodyView.variable.Goals as goal

pub returns-in-Slot : goal.returns-in-Slot
returns-in-Slot c names declarations body view =
    rw c.in-Slot.is (c.accepts_at.ensures names
    ∙ (ap (λ (list : List AcceptsTree). get_or list c.in-Slot.slot nothing) view.slots
    ∙ slots_let_in declarations body.slots c.in-Slot.slot))

pub returns-in-Field : goal.returns-in-Field
returns-in-Field c names declarations body view =
    rw c.in-Field.is (c.accepts_at-in-Field.ensures names
    ∙ (ap (λ (list : List AcceptsTree). get_or list c.in-Field.field nothing) view.fields
    ∙ fields_let_in declarations body.fields c.in-Field.field))
