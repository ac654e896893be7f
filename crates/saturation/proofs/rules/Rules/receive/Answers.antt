use Rattle.abs_tree.specs.Names.{name_of}
use Rattle.saturation.specs.RuleViews.{instruction_of, names_of, program_of, target_in, term_of, terms_of}
use Rattle.saturation.proofs.PassLemmas.{atom_ignored, atom_received}
use Rattle.saturation.proofs.rules.Rules.receive.Goals as goal

pub returns-in-Some : goal.returns-in-Some
returns-in-Some c =
    let rules = c.args.self.now in
    let names = names_of rules in
    atom_received (program_of rules) (terms_of rules) rules.depth c.args.kind.now
    (instruction_of rules c.args.instruction.now) (term_of rules c.args.term.now) (name_of names c.args.method)
    (target_in names c.args.target) c.args.atom.now c.in-Some.sign.now c.in-Some.ensures.found.0
    c.in-Some.ensures.found.1 c.call.ensures

pub returns-in-None : goal.returns-in-None
returns-in-None c =
    let rules = c.args.self.now in
    let names = names_of rules in
    atom_ignored (program_of rules) (terms_of rules) rules.depth c.args.kind.now
    (instruction_of rules c.args.instruction.now) (term_of rules c.args.term.now) (name_of names c.args.method)
    (target_in names c.args.target) c.args.atom.now c.in-None.ensures.none c.args.derivation.now
