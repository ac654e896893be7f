use Rattle.std.proofs.Common.{◌∙◌, ap}
use Rattle.std.specs.Prelude.{Option}
use Rattle.abs_tree.specs.Names.{name_of}
use Rattle.contract_terms.specs.Atoms.{held_by}
use Rattle.contract_terms.specs.declared.fact.Atom.TheVariants.{Future}
use Rattle.contract_terms.specs.declared.fact.Fact.{Fact}
use Rattle.contract_terms.specs.declared.fact.Fact.TheVariants.{Live}
use Rattle.name_bounding.specs.declared.kind.Kind.{Kind}
use Rattle.saturation.specs.RuleViews.{instruction_of, names_of, program_of, target_in, term_of, terms_of}
use Rattle.saturation.proofs.PassLemmas.{call_received}
use Rattle.saturation.proofs.rules.Rules.call.Goals as goal

pub returns : goal.returns
returns c =
    let rules = c.args.self.now in
    let names = names_of rules in
    let holds : Kind → Option Fact = λ callee. held_by c.args.kind.now (target_in names c.args.target)
    (Future c.args.instruction.now.place callee) in
    call_received (program_of rules) (terms_of rules) rules.depth c.args.kind.now
    (instruction_of rules c.args.instruction.now) (term_of rules c.args.term.now) (name_of names c.args.method)
    (target_in names c.args.target) c.args.sign.now c.called-callee.result c.called-callee.ensures
    _ (ap Live c.copied.ensures) _ (c.held_by.ensures names ∙ ap holds c.copied-2.ensures)
    c.add.ensures c.add_some.ensures c.pass_arguments.ensures
