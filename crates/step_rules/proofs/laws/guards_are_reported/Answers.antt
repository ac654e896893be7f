use Rattle.step_rules.proofs.GuardLemmas.{guard_reports}
use Rattle.step_rules.proofs.laws.guards_are_reported.Goals as goal
use Rattle.step_rules.specs.WaitRules.{Faulty, Unresolved, Resolved}

pub returns : goal.returns
returns c = record {
  resolved = λ config slots names. guard_reports config slots names Resolved;
  unresolved = λ config slots names. guard_reports config slots names Unresolved;
  faulty = λ config slots names cause. guard_reports config slots names (Faulty cause);
}
