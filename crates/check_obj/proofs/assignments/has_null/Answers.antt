use Rattle.std.proofs.Common.{inl, inr}
use Rattle.check_obj.proofs.ShapeLemmas.{null_of_interface, null_of_future, null_of_other}
use Rattle.check_obj.proofs.assignments.has_null.Goals as goal

pub returns-in-Interface : goal.returns-in-Interface
returns-in-Interface c = elim c.in-Interface.is [
  | inl one ↦ null_of_interface c.shape.result one.0 one.1 c.shape.ensures.is
  | inr one ↦ null_of_future c.shape.result one.0 one.1 c.shape.ensures.is
]

pub returns-in_default : goal.returns-in_default
returns-in_default c = null_of_other c.shape.result c.in_default.not-Interface c.in_default.not-Fut c.shape.ensures.is
