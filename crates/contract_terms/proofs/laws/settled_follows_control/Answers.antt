use Rattle.std.proofs.Common.{None}
use Rattle.abs_program.specs.Control.{entry}
use Rattle.contract_terms.specs.Settled.{no_slot, settled, settled_facts}
use Rattle.contract_terms.proofs.ChoiceLemmas.{program_chooses}
use Rattle.contract_terms.proofs.SettledLemmas.{settled_is_flow, settled_at_successor, none_at_start}
use Rattle.contract_terms.proofs.laws.settled_follows_control.Goals as goal

pub returns : goal.returns
unfolding settled_facts
returns c =
    let law = c.facts_follow_in_programs.ensures in
    record {
      flow = settled_is_flow;
      after = λ program index next point before after point_is successor before_is after_is slot among.
          settled_at_successor (settled_facts program) point.statement before slot point.goes next after
          (law.follow settled settled_is_flow (λ params. no_slot) program index point before point_is before_is)
          (program_chooses program index point point_is) successor after_is among;
      starts = λ program body first there is first_is there_is slot.
          none_at_start (settled_facts program) (entry body.index body.statements None) first there
          (law.starts settled settled_is_flow (λ params. no_slot) program body is) first_is there_is slot;
      count = λ program. law.count settled (λ params. no_slot) program;
    }
