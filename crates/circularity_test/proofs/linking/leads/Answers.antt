use Rattle.std.proofs.Common.{◌∙◌, refl, sym, subst, arith, Contains}
use Rattle.std.proofs.lemmas.Bool.{false≢true}
use Rattle.std.proofs.lemmas.List.{take_all}
use Rattle.std.proofs.lemmas.List.Elements.{Contains-get_or}
use Rattle.abs_program.specs.NamedViews.{program_tree}
use Rattle.circularity_test.proofs.LinkingLemmas.{class_passed, leads_nowhere, leads_there, made_there}
use Rattle.circularity_test.proofs.linking.leads.Goals as goal

pub loop-class-init : goal.loop-class-init
loop-class-init c class nowhere leads = omega (arith, nowhere.1)

pub returns-then-leads_in : goal.returns-then-leads_in
returns-then-leads_in c = (
  (λ _.
      leads_there (program_tree c.args.program.now.checked.named) c.args.place c.args.one c.args.other
      c.classes_made-classes.result.now (made_there c.args.program.now c.terms.result.now c.terms.ensures.are
      c.classes_made-classes.result.now c.args.place (c.classes_made-classes.ensures _)) _
      (Contains-get_or c.classes_made-classes.result.now c.loop-class.class-index _ c.loop-class-test.true)
      (c.leads_in.ensures.0 c.if-leads_in.true)),
  (λ _. refl),
)

pub loop-class-preserved : goal.loop-class-preserved
loop-class-preserved c =
    class_passed (program_tree c.args.program.now.checked.named) c.args.place c.args.one c.args.other
    c.classes_made-classes.result.now (made_there c.args.program.now c.terms.result.now c.terms.ensures.are
    c.classes_made-classes.result.now c.args.place (c.classes_made-classes.ensures _)) c.loop-class.class-index
    c.loop-class-test.true _ c.loop-class.invariant
    (λ leads. false≢true (sym c.if-leads_in.false ∙ c.leads_in.ensures.1 leads))

pub returns : goal.returns
returns c = (
  (λ never. absurd (false≢true never)),
  (λ leads. absurd (leads_nowhere (program_tree c.args.program.now.checked.named) c.args.place c.args.one c.args.other
      c.classes_made-classes.result.now (made_there c.args.program.now c.terms.result.now c.terms.ensures.are
      c.classes_made-classes.result.now c.args.place (c.classes_made-classes.ensures _))
      (λ class inside. c.loop-class.invariant class (subst (λ list. Contains list class)
      (sym (take_all c.loop-class.class-index c.classes_made-classes.result.now c.loop-class-test.false)) inside))
      leads)),
)
