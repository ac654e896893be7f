use Rattle.std.proofs.Common.{arith, refl}
use Rattle.std.proofs.lemmas.List.{length-map}
use Rattle.contract_terms.specs.Views.{reads_tree}
use Rattle.saturation.specs.RuleViews.{program_of, term_of, terms_of}
use Rattle.saturation.proofs.EachLemmas.{adds_up_more, adds_up_none}
use Rattle.saturation.proofs.PassLemmas.{argument_passed, arguments_passed, mapped_at}
use Rattle.saturation.proofs.StepLemmas.{adds_nothing}
use Rattle.saturation.proofs.rules.Rules.pass_arguments.Goals as goal

pub loop-index-init : goal.loop-index-init
loop-index-init c = adds_up_none _ _ (adds_nothing _ _ refl)

pub loop-index-preserved : goal.loop-index-preserved
loop-index-preserved c =
    let rules = c.args.self.now in
    let there = mapped_at reads_tree c.args.term.now.reads.items c.loop-index.index c.index.result.now
    (omega (arith, c.loop-index-test.true, c.len-index-end.ensures)) c.index.ensures in
    adds_up_more 1 _ c.loop-index.index c.loop-index.auto.index c.loop-index.invariant
    (argument_passed (program_of rules) (terms_of rules) c.args.kind.now (term_of rules c.args.term.now)
    c.args.callee.now c.loop-index.index (reads_tree c.index.result.now) there c.pass_atoms.ensures)

pub returns : goal.returns
returns c =
    let rules = c.args.self.now in
    arguments_passed (program_of rules) (terms_of rules) c.args.kind.now (term_of rules c.args.term.now)
    c.args.callee.now c.loop-index.index (omega (
      arith,
      length-map c.args.term.now.reads.items reads_tree,
      c.loop-index-test.false,
      c.len-index-end.ensures,
    )) c.loop-index.invariant
