use Rattle.std.proofs.lemmas.Result.{IfOk-weaker}
use Rattle.abs_program.proofs.CountLemmas.{counts_alone}
use Rattle.abs_program.proofs.tables.loop_sizes.count_declaration.Goals as goal

pub returns-in-Class : goal.returns-in-Class
returns-in-Class c = λ names.
    rw (c.in-Class.is, ← c.as_slice.ensures.value)
    (IfOk-weaker c.count_members.result _ _ (λ count counts. counts_alone counts) (c.count_members.ensures names))
