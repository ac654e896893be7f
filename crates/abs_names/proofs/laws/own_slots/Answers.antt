use Rattle.abs_names.proofs.OwnSlotLemmas.{all_given, none_shared}
use Rattle.abs_names.proofs.laws.own_slots.Goals as goal

pub returns-clause-all : goal.returns-clause-all
returns-clause-all c = all_given

pub returns-clause-none_shared : goal.returns-clause-none_shared
returns-clause-none_shared c = none_shared
