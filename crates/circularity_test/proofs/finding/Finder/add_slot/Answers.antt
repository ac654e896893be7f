use Rattle.std.proofs.Common.{◌∙◌, sym}
use Rattle.std.proofs.lemmas.Bool.{false≢true}
use Rattle.circularity_test.proofs.AddingLemmas.{on_ok}
use Rattle.circularity_test.proofs.FindingLemmas.{found_slot, slot_waits}
use Rattle.circularity_test.proofs.finding.Finder.add_slot.Goals as goal

pub returns : goal.returns
returns c =
    on_ok c.add_futures.result
    (slot_waits c.args.self.now.facts.now c.args.waiting.now c.args.settled.now c.args.slot c.in-Some.slot c.in-Some.is
    (λ there. false≢true (sym c.if-contains.false ∙ (c.contains.ensures.value ∙ found_slot c.args.settled.now
    c.in-Some.slot there))))
    c.add_futures.ensures
