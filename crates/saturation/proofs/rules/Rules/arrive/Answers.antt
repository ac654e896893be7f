use Rattle.std.proofs.Common.{ap, refl, subst}
use Rattle.abs_program.specs.InstructionViews.{effect_tree}
use Rattle.name_bounding.specs.declared.kind.Sign.{Sign}
use Rattle.abs_tree.specs.Names.{name_of}
use Rattle.saturation.proofs.ArrivalLemmas.{arrives_as, arrives_none, nothing_arrives}
use Rattle.saturation.specs.Rows.{FillsField}
use Rattle.saturation.specs.RuleViews.{names_of, program_of, terms_of}
use Rattle.saturation.specs.Steps.{Adds}
use Rattle.saturation.proofs.rules.Rules.arrive.Goals as goal

pub returns-in-Store : goal.returns-in-Store
returns-in-Store c =
    arrives_as _ _ _ _ _ _ _ _ _ (ap (effect_tree (names_of c.args.self.now)) c.in-Store.is) c.answer.ensures

pub returns-in-Return : goal.returns-in-Return
returns-in-Return c =
    arrives_as _ _ _ _ _ _ _ _ _ (ap (effect_tree (names_of c.args.self.now)) c.in-Return.is) c.give.ensures

pub returns-in-CallOwn : goal.returns-in-CallOwn
returns-in-CallOwn c =
    arrives_as _ _ _ _ _ _ _ _ _ (ap (effect_tree (names_of c.args.self.now)) c.in-CallOwn.is) c.pass_own.ensures

pub returns-in-Send : goal.returns-in-Send
returns-in-Send c =
    arrives_as _ _ _ _ _ _ _ _ _ (ap (effect_tree (names_of c.args.self.now)) c.in-Send.is) c.send.ensures

pub returns-in-Make : goal.returns-in-Make
returns-in-Make c =
    arrives_as _ _ _ _ _ _ _ _ _ (ap (effect_tree (names_of c.args.self.now)) c.in-Make.is)
    (subst (λ (sign : Sign). Adds (λ known. FillsField (program_of c.args.self.now) (terms_of c.args.self.now)
    (name_of (names_of c.args.self.now) c.in-Make.class) sign c.args.expr c.args.atom.now)
    c.args.derivation.now c.fill.new.derivation) c.new_sign-sign.ensures c.fill.ensures)

pub returns-in_default : goal.returns-in_default
returns-in_default c =
    let other = c.in_default in
    arrives_none _ _ _ _ _ _ _ _ (effect_tree (names_of c.args.self.now) c.args.instruction.now.effect) refl
    (nothing_arrives _ _ _ _ _ _ _ _ (names_of c.args.self.now) c.args.instruction.now.effect other.not-Return
    other.not-Store other.not-Make other.not-Send other.not-CallOwn) refl
