use Rattle.contract_terms.proofs.ChainLemmas.{chain_is_circular, turned}
use Rattle.contract_terms.proofs.laws.links_and_chains.Goals as goal

pub returns-clause-turns : goal.returns-clause-turns
returns-clause-turns c program pairs = (
  (λ it.
      let turns = turned program pairs it.0 it.1 it.1.one it.1.next it.1.step it.1.held in
      (it.1.next, turns.chain, turns.closes)),
  (λ it. (it.1, chain_is_circular program pairs it.0 it.1 it.2)),
)
