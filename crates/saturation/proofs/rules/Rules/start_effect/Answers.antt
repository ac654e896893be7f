use Rattle.std.proofs.Common.{ap, refl}
use Rattle.abs_program.specs.InstructionViews.{effect_tree}
use Rattle.saturation.proofs.StartLemmas.{starts_make, starts_adds, starts_none, nothing_starts}
use Rattle.saturation.specs.RuleViews.{instruction_of, names_of, program_of, term_of, terms_of}
use Rattle.saturation.proofs.rules.Rules.start_effect.Goals as goal

pub returns-in-Make : goal.returns-in-Make
returns-in-Make c =
    starts_make _ _ _ _ _ _ (ap (effect_tree (names_of c.args.self.now)) c.in-Make.is) c.new_sign-sign.ensures
    c.make.ensures

pub returns-in-CallOwn : goal.returns-in-CallOwn
returns-in-CallOwn c =
    starts_adds _ _ _ _ _ _ _ (ap (effect_tree (names_of c.args.self.now)) c.in-CallOwn.is) refl c.call_own.ensures

pub returns-in-Get : goal.returns-in-Get
returns-in-Get c =
    starts_adds _ _ _ _ _ _ _ (ap (effect_tree (names_of c.args.self.now)) c.in-Get.is) refl c.get_all.ensures

pub returns-in_default : goal.returns-in_default
returns-in_default c =
    let rules = c.args.self.now in
    let other = c.in_default in
    starts_none (program_of rules) (terms_of rules) rules.depth c.args.kind.now
    (instruction_of rules c.args.instruction.now) (term_of rules c.args.term.now)
    (effect_tree (names_of rules) c.args.instruction.now.effect) refl
    (nothing_starts (program_of rules) (terms_of rules) rules.depth c.args.kind.now
    (instruction_of rules c.args.instruction.now) (term_of rules c.args.term.now) (names_of rules)
    c.args.instruction.now.effect other.not-Make other.not-CallOwn other.not-Get) refl
