-- An object is made.
use Rattle.std.proofs.Common.{◌∙◌, ap, sym}
use Rattle.abs_tree.specs.Names.{name_of}
use Rattle.contract_terms.specs.Atoms.{held_by}
use Rattle.contract_terms.specs.declared.fact.Atom.TheVariants.{Object}
use Rattle.name_bounding.specs.declared.kind.Sign.{Sign}
use Rattle.saturation.specs.RuleViews.{names_of, program_of, target_in, terms_of}
use Rattle.saturation.proofs.ObjectLemmas.{made_new, made_none}
use Rattle.saturation.proofs.rules.Rules.make.Goals as goal

pub returns-in-Some : goal.returns-in-Some
returns-in-Some c =
    let own = c.args.self.now in
    let held = c.held_by.ensures (names_of own)
    ∙ ap (λ (it : Sign). held_by c.args.kind.now (target_in (names_of own) c.args.target) (Object it))
    c.copied.ensures in
    made_new (program_of own) (terms_of own) own.depth c.args.kind.now c.args.sign.now
    (name_of (names_of own) c.args.class) (target_in (names_of own) c.args.target) c.in-Some.taking
    (sym c.in-Some.ensures) held c.add_some.ensures c.run_if_active.ensures c.begin.ensures

pub returns-in-None : goal.returns-in-None
returns-in-None c =
    let own = c.args.self.now in
    let held = c.held_by.ensures (names_of own)
    ∙ ap (λ (it : Sign). held_by c.args.kind.now (target_in (names_of own) c.args.target) (Object it))
    c.copied.ensures in
    made_none (program_of own) (terms_of own) own.depth c.args.kind.now c.args.sign.now
    (name_of (names_of own) c.args.class) (target_in (names_of own) c.args.target) (sym c.in-None.ensures) held
    c.add_some.ensures
