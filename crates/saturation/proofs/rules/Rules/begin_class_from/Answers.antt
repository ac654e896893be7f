-- The initial values of a class give what reads a field.
use Rattle.std.proofs.Common.{subst, sym, Contains}
use Rattle.std.specs.Prelude.{get_or}
use Rattle.std.proofs.lemmas.List.{get_or_default}
use Rattle.saturation.specs.RuleViews.{program_of, terms_of}
use Rattle.saturation.specs.declared.uses.Part.TheVariants.{Expr}
use Rattle.saturation.specs.declared.uses.Use.{Use}
use Rattle.saturation.proofs.ObjectLemmas.{uses_done}
use Rattle.saturation.proofs.StepLemmas.{adds_each, adds_each_more}
use Rattle.saturation.proofs.rules.Rules.begin_class_from.Goals as goal

pub loop-found-preserved : goal.loop-found-preserved
loop-found-preserved c =
    let items = c.of-found-items.result.now in
    let index = c.loop-found.found-index in
    let one : Use = get_or items index (record { term = 0; part = Expr 0 }) in
    adds_each_more _ items index one c.loop-found-test.true (get_or_default items index _ one c.loop-found-test.true)
    c.loop-found.invariant c.fill_sum.ensures

pub returns : goal.returns
returns c =
    let own = c.args.self.now in
    let items = c.of-found-items.result.now in
    uses_done (program_of own) (terms_of own) c.args.class c.args.sign.now c.params_of_class-params.result own.depth
    c.args.field c.args.atom.now items c.params_of_class-params.ensures
    (λ use_ there. (c.requires _ _ use_).0 (subst (λ uses. Contains uses use_) c.of-found-items.ensures there))
    (λ use_ is. subst (λ uses. Contains uses use_) (sym c.of-found-items.ensures) ((c.requires _ _ use_).1 is))
    (adds_each _ items c.loop-found.found-index c.loop-found-test.false c.loop-found.invariant)
