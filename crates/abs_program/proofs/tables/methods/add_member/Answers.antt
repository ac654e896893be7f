use Rattle.std.proofs.lemmas.Result.{on_ok_weaker}
use Rattle.abs_program.proofs.MethodLemmas.{member_added}
use Rattle.abs_program.proofs.tables.methods.add_member.Goals as goal

pub returns-in-Method : goal.returns-in-Method
returns-in-Method c =
    on_ok_weaker c.add_first.result
    (member_added c.in-Method.signature c.in-Method.field-1
    (record { class = c.args.class; name = c.number-name.result }) c.args.index c.in-Method.is
    c.number-name.ensures.number)
    c.add_first.ensures
