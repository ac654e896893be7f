use Rattle.check_obj.proofs.right_sides.value_in.Goals as goal

pub returns-in-Variable : goal.returns-in-Variable
returns-in-Variable c context knows = rw c.in-Variable.is (c.slot_value.ensures context c.in-Variable.field-0 knows)
