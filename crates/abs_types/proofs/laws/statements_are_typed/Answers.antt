use Rattle.abs_types.proofs.StatementLemmas.{statements_found, statements_whole}
use Rattle.abs_types.proofs.laws.statements_are_typed.Goals as goal

pub returns : goal.returns
returns c = λ declarations frame is_last statements.
    (statements_found declarations frame is_last statements, statements_whole)
