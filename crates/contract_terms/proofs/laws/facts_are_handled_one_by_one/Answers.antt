use Rattle.std.proofs.Common.{Contains}
use Rattle.contract_terms.specs.Asks.{Rests}
use Rattle.contract_terms.proofs.DerivedLemmas.{hold_map, handled_step}
use Rattle.contract_terms.proofs.laws.facts_are_handled_one_by_one.Goals as goal

pub returns : goal.returns
returns c = record {
  kept = λ facts more premises grows hold. hold_map (Contains facts) (Contains more) grows premises hold;
  step = λ program depth done last facts more old grows new.
      handled_step (Rests program depth) done last facts more old grows new;
}
