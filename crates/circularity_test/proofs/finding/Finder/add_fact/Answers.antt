use Rattle.circularity_test.proofs.AddingLemmas.{on_ok}
use Rattle.circularity_test.proofs.FindingLemmas.{live_waits}
use Rattle.circularity_test.specs.Finding.{program_in}
use Rattle.circularity_test.proofs.finding.Finder.add_fact.Goals as goal

pub returns-in-Live : goal.returns-in-Live
returns-in-Live c =
    on_ok c.add_kind.result
    (live_waits (program_in c.args.self.now) c.args.self.now.terms.now c.args.self.now.facts.now c.args.fact.now
    c.in-Live.kind c.in-Live.is) c.add_kind.ensures
