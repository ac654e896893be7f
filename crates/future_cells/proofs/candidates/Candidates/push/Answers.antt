use Rattle.std.proofs.Common.{map}
use Rattle.std.proofs.lemmas.List.{map-append}
use Rattle.future_cells.proofs.CandidateLemmas.{AreSeated-push}
use Rattle.future_cells.specs.SeatViews.{seat_task}
use Rattle.future_cells.proofs.candidates.Candidates.push.Goals as goal

pub invariant_of-self : goal.invariant_of-self
invariant_of-self c =
    rw (c.push_reserved.ensures.items, map-append)
    (AreSeated-push c.self.inside.set (map seat_task c.self.inside.seats.items) c.self.invariant)
