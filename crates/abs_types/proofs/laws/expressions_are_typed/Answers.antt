use Rattle.abs_types.proofs.AgreementLemmas.{typed_found, typed_whole}
use Rattle.abs_types.proofs.NoOffenceLemmas.{unoffending_exactly_typed}
use Rattle.abs_types.proofs.laws.expressions_are_typed.Goals as goal

pub returns-clause-agree : goal.returns-clause-agree
returns-clause-agree c = λ declarations frame bound expr_tree type. (typed_whole, typed_found declarations frame bound expr_tree type)

pub returns-clause-no_offence : goal.returns-clause-no_offence
returns-clause-no_offence c = unoffending_exactly_typed
