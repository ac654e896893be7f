use Rattle.abs_types.proofs.ReplacementLemmas.{replaced_twice, all_replaced_twice}
use Rattle.abs_types.proofs.laws.replacements_compose.Goals as goal

pub returns-clause-one : goal.returns-clause-one
returns-clause-one c = replaced_twice

pub returns-clause-several : goal.returns-clause-several
returns-clause-several c = all_replaced_twice
