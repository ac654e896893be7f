use Rattle.abs_tree.specs.declared.syntax.variable.Variable.TheVariants as variable
use Rattle.check_fun.proofs.RuleLemmas.{variable_found}
use Rattle.check_fun.proofs.checker.Checker.variable_type.Goals as goal

pub returns-in-Slot : goal.returns-in-Slot
returns-in-Slot c context knows =
    rw (c.index_at.ensures, c.deref.ensures.value, c.in-Slot.is)
    (variable_found (variable.Slot c.in-Slot.slot) knows)

pub returns-in-Bound : goal.returns-in-Bound
returns-in-Bound c context knows =
    rw (c.index_at-in-Bound.ensures, c.deref-in-Bound.ensures.value, c.in-Bound.is)
    (variable_found (variable.Bound c.in-Bound.depth) knows)

pub returns-in-Field : goal.returns-in-Field
returns-in-Field c context knows =
    rw (c.field_at.ensures, c.deref-in-Field.ensures.value, c.in-Field.is)
    (variable_found (variable.Field c.in-Field.field) knows)
