-- A field of a new object holds an atom of an argument.
use Rattle.std.proofs.Common.{sym}
use Rattle.abs_tree.specs.Names.{name_of}
use Rattle.saturation.specs.RuleViews.{names_of, program_of, terms_of}
use Rattle.saturation.proofs.StepLemmas.{adds_none}
use Rattle.saturation.proofs.ObjectLemmas.{fills_field, no_class}
use Rattle.saturation.proofs.rules.Rules.fill.Goals as goal

pub returns-in-Some : goal.returns-in-Some
returns-in-Some c =
    let own = c.args.self.now in
    fills_field (program_of own) (terms_of own) (name_of (names_of own) c.args.class) c.in-Some.taking c.args.sign.now
    c.args.argument c.args.atom.now (sym c.in-Some.ensures) c.fill_field.ensures

pub returns-in-None : goal.returns-in-None
returns-in-None c = adds_none _ (λ known fact fills. no_class (sym c.in-None.ensures) fills.class_is)
