use Rattle.std.proofs.lemmas.Result.{IfOk-weaker}
use Rattle.abs_program.proofs.CountLemmas.{counts_alone}
use Rattle.abs_program.proofs.tables.loop_sizes.count_member.Goals as goal

pub returns-in-Method : goal.returns-in-Method
returns-in-Method c = λ names.
    rw (c.in-Method.is, ← c.as_slice.ensures.value)
    (IfOk-weaker c.count_statements.result _ _ (λ count counts. counts_alone counts) (c.count_statements.ensures names))
