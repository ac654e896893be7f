-- The initial values of the class with a name give what reads a field, if an object of it is made.
use Rattle.std.proofs.Common.{subst, sym, Contains}
use Rattle.abs_tree.specs.Names.{name_of}
use Rattle.saturation.specs.RuleViews.{names_of, program_of, terms_of}
use Rattle.saturation.proofs.MadeLemmas.{object_missing, object_there}
use Rattle.saturation.proofs.StepLemmas.{adds_none}
use Rattle.saturation.proofs.ObjectLemmas.{class_same, named_adds, no_class}
use Rattle.saturation.proofs.rules.Rules.begin_named.Goals as goal

pub returns-then-contains : goal.returns-then-contains
returns-then-contains c =
    let own = c.args.self.now in
    let class = c.in-Some.taking.declaration in
    named_adds (program_of own) (terms_of own) own.depth c.args.made.now.keys c.args.sign.now c.args.field
    c.args.atom.now (name_of (names_of own) c.args.class) c.in-Some.taking (sym c.in-Some.ensures)
    (object_there c.args.made.now.keys c.copied.result c.args.sign.now class c.contains.result c.copied.ensures
    c.contains.ensures c.if-contains.true) c.begin_class_from.ensures

pub returns-else-contains : goal.returns-else-contains
returns-else-contains c =
    let made = c.args.made.now.keys in
    let sign = c.args.sign.now in
    adds_none _ (λ known fact begins.
    object_missing made c.copied.result sign c.in-Some.taking.declaration c.contains.result c.copied.ensures
    c.contains.ensures c.if-contains.false
    (subst (λ class. Contains made (sign, class))
    (sym (class_same c.in-Some.taking (sym c.in-Some.ensures) begins.class_is)) begins.is_made))

pub returns-in-None : goal.returns-in-None
returns-in-None c = adds_none _ (λ known fact begins. no_class (sym c.in-None.ensures) begins.class_is)
