-- The initial values of all classes that are made at a place give what reads a field.
use Rattle.std.proofs.Common.{◌∙◌}
use Rattle.std.specs.Prelude.{get_or}
use Rattle.std.proofs.lemmas.List.{get_or_default}
use Rattle.abs_tree.specs.declared.symbol.Symbol.{Symbol}
use Rattle.saturation.specs.RuleViews.{names_of, program_of, terms_of}
use Rattle.saturation.proofs.ObjectLemmas.{named_done}
use Rattle.saturation.proofs.StepLemmas.{adds_each, adds_each_more}
use Rattle.saturation.proofs.rules.Rules.begin_from.Goals as goal

pub loop-class-preserved : goal.loop-class-preserved
loop-class-preserved c =
    let classes = c.classes_made-class-items.result.now in
    let index = c.loop-class.class-index in
    let one : Symbol = get_or classes index (record { 0 = 0 }) in
    adds_each_more _ classes index one c.loop-class-test.true
    (get_or_default classes index _ one c.loop-class-test.true) c.loop-class.invariant c.begin_named.ensures

pub returns : goal.returns
returns c =
    let own = c.args.self.now in
    let classes = c.classes_made-class-items.result.now in
    named_done (program_of own) (terms_of own) own.depth c.args.made.now.keys c.args.sign.now c.args.field
    c.args.atom.now classes (c.classes_made-class-items.ensures (names_of own) ∙ own.made c.args.sign.now.place)
    (adds_each _ classes c.loop-class.class-index c.loop-class-test.false c.loop-class.invariant)
