use Rattle.type_sound.proofs.LawLemmas.{evaluation_has_no_type_fault, event_has_no_type_fault, no_task_ended_with_a_type_fault}
use Rattle.type_sound.proofs.laws.no_type_fault.Goals as goal

pub returns : goal.returns
returns c = record {
  evaluation = evaluation_has_no_type_fault;
  event = event_has_no_type_fault;
  ended = no_task_ended_with_a_type_fault;
}
