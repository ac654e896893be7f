use Rattle.abs_types.proofs.FormLemmas.{parameter_apart}
use Rattle.abs_types.proofs.subtyping.is_parameter.Goals as goal

pub returns-in_default : goal.returns-in_default
returns-in_default c =
    λ declarations names. parameter_apart declarations c.args.index names c.args.term.now c.in_default.not-Parameter
