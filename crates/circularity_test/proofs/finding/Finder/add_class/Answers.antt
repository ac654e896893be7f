use Rattle.std.proofs.Common.{◌≡◌, ◌↔◌, Some, refl, subst}
use Rattle.abs_tree.specs.Names.{name_of}
use Rattle.circularity_test.proofs.AddingLemmas.{on_ok}
use Rattle.circularity_test.proofs.FindingLemmas.{class_waits, no_class_waits}
use Rattle.circularity_test.specs.Adding.{Adds, OfEach}
use Rattle.circularity_test.specs.Finding.{TermWaits, names_in, program_in}
use Rattle.saturation.specs.Rows.{MethodIs}
use Rattle.saturation.specs.declared.body.Body.{Body}
use Rattle.circularity_test.proofs.finding.Finder.add_class.Goals as goal

pub returns-in-Some : goal.returns-in-Some
returns-in-Some c =
    on_ok c.add_terms.result
    (λ added. class_waits (program_in c.args.self.now) c.args.self.now.terms.now c.args.self.now.facts.now
    c.args.kind.now
    c.args.method c.args.class c.in-Some.body
    (subst (λ found. (own : Body) → (found ≡ Some own) ↔ MethodIs (program_in c.args.self.now)
    (name_of (names_in c.args.self.now) c.args.class) (name_of (names_in c.args.self.now) c.args.method) own)
    c.in-Some.is c.of_method.ensures)
    (subst (λ list. Adds (OfEach (TermWaits (program_in c.args.self.now) c.args.self.now.facts.now c.args.kind.now)
    list)
    c.args.found.now.items c.add_terms.new.found.items) (c.terms.ensures (names_in c.args.self.now)) added))
    c.add_terms.ensures

pub returns-in-None : goal.returns-in-None
returns-in-None c =
    no_class_waits (program_in c.args.self.now) c.args.self.now.terms.now c.args.self.now.facts.now c.args.kind.now
    c.args.method c.args.class
    (subst (λ found. (own : Body) → (found ≡ Some own) ↔ MethodIs (program_in c.args.self.now)
    (name_of (names_in c.args.self.now) c.args.class) (name_of (names_in c.args.self.now) c.args.method) own)
    c.in-None.is c.of_method.ensures) refl
