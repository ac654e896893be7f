use Rattle.abs_tree.specs.Names.{name_of}
use Rattle.contract_terms.specs.Views.{reads_tree}
use Rattle.saturation.specs.RuleViews.{names_of, program_of, term_of, terms_of}
use Rattle.saturation.proofs.AtomLemmas.{gives_grows}
use Rattle.saturation.proofs.PassLemmas.{mapped_first, receivers_passed}
use Rattle.saturation.proofs.StepLemmas.{adds_each_more, adds_found}
use Rattle.saturation.proofs.rules.Rules.pass_to_receivers.Goals as goal

pub loop-receiver-preserved : goal.loop-receiver-preserved
loop-receiver-preserved c =
    adds_each_more _ c.deref-receiver-items.result.now c.loop-receiver.receiver-index c.receiver-item.result
    c.loop-receiver-test.true c.receiver-item.is c.loop-receiver.invariant c.pass_to_receiver.ensures

pub returns-after-loop-receiver : goal.returns-after-loop-receiver
returns-after-loop-receiver c =
    let rules = c.args.self.now in
    let found = c.in-Some.ensures.lookup in
    let first = mapped_first reads_tree _ _ c.deref.ensures.value c.in-Some.reads.now found.0 found.1 in
    receivers_passed (program_of rules) (terms_of rules) c.args.kind.now (term_of rules c.args.term.now)
    (name_of (names_of rules) c.args.method) c.args.argument c.args.atom.now (reads_tree c.in-Some.reads.now) first
    (adds_found c.deref-receiver-items.ensures.value c.loop-receiver-test.false
    (gives_grows c.args.kind.now (reads_tree c.in-Some.reads.now)) c.atoms_of-receivers.ensures
    c.loop-receiver.invariant)
