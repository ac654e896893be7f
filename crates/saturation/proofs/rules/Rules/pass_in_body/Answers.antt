use Rattle.std.proofs.Common.{Contains, List, subst, sym}
use Rattle.saturation.proofs.HandlingLemmas.{passes_body}
use Rattle.std.proofs.lemmas.List.{get_or_default}
use Rattle.saturation.proofs.StepLemmas.{adds_each, adds_each_more}
use Rattle.saturation.specs.declared.uses.Use.{Use}
use Rattle.saturation.proofs.rules.Rules.pass_in_body.Goals as goal

pub loop-found-preserved : goal.loop-found-preserved
loop-found-preserved c =
    adds_each_more _ c.of-found-items.result.now c.loop-found.found-index _ c.loop-found-test.true
    (get_or_default _ _ _ _ c.loop-found-test.true) c.loop-found.invariant c.pass_to_use.ensures

pub returns : goal.returns
returns c =
    let table = c.requires c.args.body c.args.location in
    let same = c.of-found-items.ensures in
    passes_body (λ use_ inside. (table use_).0 (subst (λ (it : List Use). Contains it use_) same inside))
    (λ use_ is_use. subst (λ (it : List Use). Contains it use_) (sym same) ((table use_).1 is_use))
    (adds_each _ c.of-found-items.result.now c.loop-found.found-index c.loop-found-test.false c.loop-found.invariant)
