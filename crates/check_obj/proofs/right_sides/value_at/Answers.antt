use Rattle.check_obj.proofs.ShapeLemmas.{value_found, no_value}
use Rattle.check_obj.proofs.right_sides.value_at.Goals as goal

pub returns-in-Fut : goal.returns-in-Fut
returns-in-Fut c =
    value_found c.shape.result c.in-Fut.value c.in-Fut.is c.shape.ensures.is c.shape.ensures.parts c.requires.among

pub returns-in_default : goal.returns-in_default
returns-in_default c = no_value c.shape.result c.in_default.not-Fut c.shape.ensures.is
