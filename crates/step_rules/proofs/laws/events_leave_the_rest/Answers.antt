use Rattle.step_rules.proofs.AfterLemmas.{task-after, object-after, cog-after}
use Rattle.step_rules.proofs.StayLemmas.{change_stays, written_is_home}
use Rattle.step_rules.proofs.laws.events_leave_the_rest.Goals as goal

pub returns : goal.returns
returns c = record {
  stays = change_stays;
  written = written_is_home;
  tasks = task-after;
  objects = object-after;
  cogs = cog-after;
}
