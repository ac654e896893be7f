use Rattle.std.proofs.lemmas.Result.{IfOk-weaker}
use Rattle.abs_program.proofs.MakerLemmas.{makes_alone}
use Rattle.abs_program.proofs.tables.instructions.Maker.add_declaration.Goals as goal

pub returns-in-Class : goal.returns-in-Class
returns-in-Class c = λ names.
    rw (c.in-Class.is, ← c.as_slice.ensures.value)
    (IfOk-weaker c.add_members.result _ _ (λ unit makes. makes_alone makes) (c.add_members.ensures names))
