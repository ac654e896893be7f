use Rattle.abs_command.proofs.AgreementLemmas.{calls_agree}
use Rattle.abs_command.proofs.command.calls_agree.Goals as goal

pub returns : goal.returns
returns c words bytes source source' one output other other' two output' came came' was was' =
    calls_agree c.findings_are_exact.ensures.one came came' was was'
