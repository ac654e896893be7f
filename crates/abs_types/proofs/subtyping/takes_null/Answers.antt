use Rattle.abs_types.proofs.FormLemmas.{null_apart}
use Rattle.abs_types.proofs.subtyping.takes_null.Goals as goal

pub returns-in_default : goal.returns-in_default
returns-in_default c =
    λ names. null_apart names c.args.term.now c.in_default.not-Fut c.in_default.not-Interface c.in_default.not-Null
