use Rattle.check_fun.proofs.MethodLemmas.{this_has, this_lacks}
use Rattle.check_fun.proofs.checker.Checker.this_has_method.Goals as goal

pub returns-in-Some : goal.returns-in-Some
returns-in-Some c =
    this_has c.in-Some.class c.args.method c.args.count c.class_has_method.result c.in-Some.is
    c.class_has_method.ensures

pub returns-in-None : goal.returns-in-None
returns-in-None c = this_lacks c.args.method c.args.count c.in-None.is
