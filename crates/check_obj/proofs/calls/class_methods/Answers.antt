use Rattle.std.proofs.Common.{ap, sym, ◌∙◌}
use Rattle.check_obj.proofs.CallLemmas.{class_called, class_lacks, no_class_called}
use Rattle.check_obj.proofs.calls.class_methods.Goals as goal
use Rattle.check_obj.proofs.calls.class_methods.Goals.{in-Some-method_at+in_ok-add_called, in_default-method_at}
use Rattle.check_obj.specs.Calls.{if_there}

pub returns-in_default : goal.returns-in_default
returns-in_default c =
    rw c.new-found.ensures.items (no_class_called _ _ _ c.args.count (sym c.class.ensures ∙ c.in_default.is))

pub returns-in_default-method : goal.returns-in_default-method
returns-in_default-method c =
    rw c.new-found.ensures.items
    (class_lacks _ _ _ c.in-Some.taking c.args.count (sym c.class.ensures ∙ c.in-Some.is)
    (sym c.method.ensures ∙ c.in_default-method.is))

pub returns : goal.returns
returns c =
    let is = class_called _ _ _ c.in-Some.taking c.in-Some-method.index c.args.count
    (sym c.class.ensures ∙ c.in-Some.is) (sym c.method.ensures ∙ c.in-Some-method.is) in
    elim c.match-method_at.branch [
      | in-Some-method_at+in_ok-add_called w ↦
          rw (w.found-is, w.in_ok-add_called.ensures c.args.program.now.symbols, c.new-found.ensures.items)
          (ap (if_there c.args.count) w.in-Some-method_at.ensures ∙ is)
      | in_default-method_at w ↦
          rw (w.found-is, c.new-found.ensures.items) (ap (if_there c.args.count) w.in_default-method_at.ensures ∙ is)
    ]
