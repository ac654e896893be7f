use Rattle.std.proofs.lemmas.List.Elements.{All-contains}
use Rattle.contract_terms.specs.Asks.{Rests, IsDerivedIn}
use Rattle.contract_terms.proofs.DerivedLemmas.{derived_closed, none_closed}
use Rattle.contract_terms.proofs.laws.derived_facts_are_closed.Goals as goal

pub returns : goal.returns
returns c = record {
  closed = λ program depth. derived_closed (Rests program depth);
  exact = λ program depth facts closed derived fact. (
    (λ there. All-contains (IsDerivedIn program depth) facts fact derived there),
    (λ is. is facts closed),
  );
  many = λ program depth count facts more closed few. none_closed (Rests program depth) count more facts closed few;
}
