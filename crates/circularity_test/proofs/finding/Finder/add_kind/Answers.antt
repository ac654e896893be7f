use Rattle.std.proofs.Common.{subst}
use Rattle.circularity_test.proofs.AddingLemmas.{on_ok}
use Rattle.circularity_test.proofs.FindingLemmas.{main_waits, methods_wait}
use Rattle.circularity_test.specs.Adding.{Adds, OfEach}
use Rattle.circularity_test.specs.Finding.{TermWaits, names_in, program_in}
use Rattle.circularity_test.proofs.finding.Finder.add_kind.Goals as goal

pub returns-in-Main : goal.returns-in-Main
returns-in-Main c =
    on_ok c.add_terms.result
    (λ added. main_waits (program_in c.args.self.now) c.args.self.now.terms.now c.args.self.now.facts.now
    c.args.kind.now
    c.in-Main.is
    (subst (λ list. Adds (OfEach (TermWaits (program_in c.args.self.now) c.args.self.now.facts.now c.args.kind.now)
    list)
    c.args.found.now.items c.add_terms.new.found.items) (c.terms.ensures (names_in c.args.self.now)) added))
    c.add_terms.ensures

pub returns-in-Method : goal.returns-in-Method
returns-in-Method c =
    on_ok c.add_classes.result
    (methods_wait (program_in c.args.self.now) c.args.self.now.terms.now c.args.self.now.facts.now c.args.kind.now
    c.in-Method.sign c.in-Method.method c.in-Method.is c.classes_made.result.now
    (c.classes_made.ensures (names_in c.args.self.now))) c.add_classes.ensures
