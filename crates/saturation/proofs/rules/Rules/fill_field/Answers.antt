-- A field holds an atom that it lets in.
use Rattle.std.proofs.Common.{◌≡◌, ◌∙◌, sym, refl}
use Rattle.contract_terms.specs.declared.fact.Fact.TheVariants.{Field}
use Rattle.saturation.specs.RuleViews.{accepts_of, program_of, terms_of}
use Rattle.saturation.proofs.StepLemmas.{adds_none}
use Rattle.saturation.proofs.ObjectLemmas.{fill_adds, no_field, not_let_in}
use Rattle.saturation.proofs.rules.Rules.fill_field.Goals as goal

pub returns-in_default : goal.returns-in_default
returns-in_default c =
    let own = c.args.self.now in
    adds_none _ (no_field (program_of own) (terms_of own) c.args.class c.args.field c.args.sign.now c.args.atom.now
    (sym c.in_default.ensures))

pub returns-else-lets_in : goal.returns-else-lets_in
returns-else-lets_in c =
    let own = c.args.self.now in
    adds_none _ (not_let_in (program_of own) (terms_of own) c.args.class c.args.field c.args.sign.now c.args.atom.now
    (accepts_of own c.in-Some.accepts.now) (sym c.in-Some.ensures) (sym c.lets_in.ensures ∙ c.if-lets_in.false))

pub returns-in-Some-number : goal.returns-in-Some-number
returns-in-Some-number c =
    let own = c.args.self.now in
    let is : Field c.copied.result c.in-Some-number.number c.copied-in-Some-number.result
    ≡ Field c.args.sign.now c.args.field c.args.atom.now =
    rw (c.copied.ensures, c.copied-in-Some-number.ensures, c.in-Some-number.ensures.number) refl in
    fill_adds (program_of own) (terms_of own) c.args.class c.args.field c.args.sign.now c.args.atom.now
    (accepts_of own c.in-Some.accepts.now) _ (sym c.in-Some.ensures) (sym c.lets_in.ensures ∙ c.if-lets_in.true) is
    c.number.ensures.adds c.add.ensures
