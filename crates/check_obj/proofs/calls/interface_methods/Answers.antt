use Rattle.std.proofs.Common.{rules, sym, ◌∙◌}
use Rattle.abs_types.specs.Methods.{signatures_of_type}
use Rattle.check_obj.proofs.PickedLemmas.{interface_called}
use Rattle.check_obj.proofs.calls.interface_methods.Goals as goal

pub returns-in_default : goal.returns-in_default
unfolding signatures_of_type
returns-in_default c = search rules

pub returns : goal.returns
returns c =
    let is = rw c.in-Some-Interface.field-0-is at c.in-Some-Interface.is in
    rw (c.in_ok-add_inherited.ensures, c.in_ok-add_own.ensures, c.new-found.ensures.items)
    (interface_called _ _ _ c.in-Some-Interface.own c.args.count (sym c.type_named.ensures ∙ is))
