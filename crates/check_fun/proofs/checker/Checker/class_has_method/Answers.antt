use Rattle.std.proofs.Common.{false, sym, ◌∙◌}
use Rattle.check_fun.proofs.MethodLemmas.{has_own_method, lacks_own_method, has_no_class, known_method}
use Rattle.check_fun.proofs.checker.Checker.class_has_method.Goals as goal

pub returns-in_default : goal.returns-in_default
returns-in_default c =
    known_method c.args.class c.args.method c.args.count false
    (has_no_class _ _ _ c.args.count (sym c.class.ensures ∙ c.in_default.is))

pub returns-in-Some-method : goal.returns-in-Some-method
returns-in-Some-method c =
    known_method c.args.class c.args.method c.args.count c.takes_count.result
    (c.takes_count.ensures ∙ has_own_method _ _ _ c.in-Some.taking c.in-Some-method.index c.args.count
    (sym c.class.ensures ∙ c.in-Some.is) (sym c.method.ensures ∙ c.in-Some-method.is))

pub returns-in-None : goal.returns-in-None
returns-in-None c =
    known_method c.args.class c.args.method c.args.count false
    (lacks_own_method _ _ _ c.in-Some.taking c.args.count (sym c.class.ensures ∙ c.in-Some.is)
    (sym c.method.ensures ∙ c.in-None.is))
