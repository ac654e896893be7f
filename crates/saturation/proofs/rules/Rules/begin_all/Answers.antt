-- All initial values of a class are gone through.
use Rattle.std.proofs.Common.{arith, length, map, refl, sym, ◌≤◌, ◌∙◌}
use Rattle.std.proofs.lemmas.List.{length-map}
use Rattle.std.proofs.lemmas.Option.{none-some}
use Rattle.contract_terms.specs.Views.{class_tree, reads_tree}
use Rattle.saturation.specs.RuleViews.{names_of, program_of, terms_of}
use Rattle.saturation.proofs.EachLemmas.{adds_up_more, adds_up_none}
use Rattle.saturation.proofs.ObjectLemmas.{initial_turn, initials_done}
use Rattle.saturation.proofs.StepLemmas.{adds_none, adds_nothing}
use Rattle.saturation.proofs.rules.Rules.begin_all.Goals as goal

pub returns-in_default : goal.returns-in_default
returns-in_default c = adds_none _ (λ known fact begins.
    none-some begins.gives.tree (c.in_default.ensures (names_of c.args.self.now) ∙ begins.gives.class_is))

pub loop-index-init : goal.loop-index-init
loop-index-init c = adds_up_none _ _ (adds_nothing _ _ refl)

pub loop-index-preserved : goal.loop-index-preserved
loop-index-preserved c =
    let own = c.args.self.now in
    adds_up_more 0 _ c.loop-index.index (omega arith) c.loop-index.invariant
    (initial_turn (program_of own) (terms_of own) c.args.class c.args.sign.now c.params_of_class-params.result
    c.in-Some.terms.now.initials.items c.loop-index.index c.index.result.now
    (omega (arith, c.loop-index-test.true, c.len-index-end.ensures)) c.index.ensures c.begin_initial.ensures)

pub returns : goal.returns
returns c =
    let own = c.args.self.now in
    let initials = c.in-Some.terms.now.initials.items in
    let over : length (map reads_tree initials) ≤ c.loop-index.index =
    omega (arith, length-map initials reads_tree, c.loop-index-test.false, c.len-index-end.ensures) in
    initials_done (program_of own) (terms_of own) c.args.class c.args.sign.now c.params_of_class-params.result own.depth
    (class_tree (names_of own) c.in-Some.terms.now) c.loop-index.index (sym (c.in-Some.ensures (names_of own)))
    c.params_of_class-params.ensures over c.loop-index.invariant
