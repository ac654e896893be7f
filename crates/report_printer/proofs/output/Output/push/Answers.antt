use Rattle.std.proofs.Common.{◌∙◌, ap, sym}
use Rattle.std.specs.Prelude.{not}
use Rattle.report_printer.proofs.WritingLemmas.{fails_on, writes_one}
use Rattle.report_printer.proofs.output.Output.push.Goals as goal
use Rattle.report_printer.proofs.output.Output.push.Goals.{then-self, else-self}

pub returns : goal.returns
returns c = elim c.if-self.branch [
  | then-self w ↦ fails_on c.if-self.self c.if-self.self-inside.bytes.items (w.self-is ∙ w.if-self.true)
  | else-self w ↦
      writes_one c.self.inside.failed c.if-self.self _ c.self.inside.bytes.items c.if-self.self-inside.bytes.items
      c.self.view_is w.if-self.false (w.is_err-self-inside.ensures.negation ∙ ap not (sym w.self-is))
      (ap (λ it. it.bytes.items) w.self-inside-is ∙ w.extend_from_slice.ensures.items)
]
