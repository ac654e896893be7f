-- Each method of the kind is that of a class of which objects are made at the place of its sign.
use Rattle.std.proofs.Common.{sym, subst}
use Rattle.std.proofs.lemmas.List.{get_or_default}
use Rattle.circularity_test.proofs.PartLemmas.{gets_as, gets_each_all, gets_each_more, gets_each_none}
use Rattle.circularity_test.proofs.LinkingLemmas.{made_there}
use Rattle.circularity_test.proofs.StepLemmas.{made_by_class}
use Rattle.circularity_test.specs.Parts.{Gets}
use Rattle.circularity_test.specs.Steps.{MethodStep, program_of}
use Rattle.circularity_test.proofs.steps.Steps.join_methods.Goals as goal

pub loop-class-init : goal.loop-class-init
loop-class-init c = gets_each_none c.classes_made-class-items.result.now

pub loop-class-preserved : goal.loop-class-preserved
loop-class-preserved c =
    gets_each_more _ c.loop-class.class-index _ c.loop-class-test.true (get_or_default _ _ _ _ c.loop-class-test.true)
    c.loop-class.invariant c.in_ok-join_class-in-Method.ensures

pub returns-after-loop-class : goal.returns-after-loop-class
returns-after-loop-class c =
    let classes = c.classes_made-class-items.result.now in
    subst (λ kind. Gets (MethodStep (program_of c.args.self.now) c.args.end.now kind) c.args.parts.now c.loop-class.parts)
    (sym c.in-Method.is)
    (gets_as (gets_each_all _ c.loop-class.class-index c.loop-class-test.false c.loop-class.invariant)
    (λ edge step. ∣ made_by_class (program_of c.args.self.now) c.args.end.now c.in-Method.sign c.in-Method.method classes
    (made_there c.args.self.now.program.now c.terms.result.now c.terms.ensures.are classes c.in-Method.sign.place
    (c.classes_made-class-items.ensures _)) edge step ∣₁))
