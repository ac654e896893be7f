use Rattle.std.proofs.Common.{◌∙◌, subst}
use Rattle.report_printer.specs.Output.{Writes}
use Rattle.report_printer.proofs.output.Output.number.Goals as goal

pub returns : goal.returns
returns c = subst (λ piece. Writes c.args.self.now piece c.push.new.self)
    (c.as_bytes.ensures.value ∙ c.format.ensures.text) c.push.ensures
