use Rattle.std.proofs.Common.{◌∙◌}
use Rattle.report_printer.proofs.ClassLemmas.{first_class, no_class}
use Rattle.report_printer.proofs.printer.Printer.class.Goals as goal

pub returns-in-Some : goal.returns-in-Some
returns-in-Some c =
    c.name.ensures
    ∙ first_class c.args.self.now.program.now c.terms.result.now c.terms.ensures.are c.classes_made.result.now
    c.args.place (c.classes_made.ensures _) c.in-Some.class.now c.in-Some.ensures.value

pub returns-in-None : goal.returns-in-None
returns-in-None c =
    no_class c.args.self.now.program.now c.terms.result.now c.terms.ensures.are c.classes_made.result.now
    c.args.place (c.classes_made.ensures _) c.in-None.ensures.value
