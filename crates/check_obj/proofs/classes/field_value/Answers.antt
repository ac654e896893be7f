use Rattle.check_fun.specs.Contexts.{with_frame}
use Rattle.abs_types.specs.TypeOffences.{value_frame}
use Rattle.check_obj.proofs.classes.field_value.Goals as goal

pub returns-in-Some-clause-noted : goal.returns-in-Some-clause-noted
returns-in-Some-clause-noted c context known type knows finds =
    let noted = c.asked.ensures.noted (with_frame context (value_frame known)) type knows finds in
    rw c.in-Some.is (rw (c.place.ensures context.names, c.deref.ensures, c.deref-in-Some.ensures) at noted)
