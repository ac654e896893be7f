use Rattle.std.proofs.Common.{ℕ, map, Option, Some, ap, ◌∙◌, refl}
use Rattle.std.proofs.lemmas.List.{map-set, length-map}
use Rattle.list_facts.proofs.EntryLemmas.{slice_get-map_there}
use Rattle.future_cells.proofs.CandidateLemmas.{AreSeated-has, AreSeated-has_not, AreSeated-changed}
use Rattle.future_cells.specs.SeatViews.{seat_task}
use Rattle.future_cells.proofs.candidates.Candidates.seat.Goals as goal

pub change-requires-clause-is_in : goal.change-requires-clause-is_in
change-requires-clause-is_in c = λ before is.
    let items = c.self.inside.seats.items in
    let there = rw (← c.self.view_is, length-map) at c.requires.there in
    let seat = slice_get-map_there seat_task items c.args.cog c.index_mut.result.now there c.index_mut.ensures.value in
    AreSeated-has c.self.inside.set (map seat_task items) c.args.cog before c.self.invariant
    (seat ∙ ap (λ (one : Option ℕ). Some one) is)

pub change-requires-clause-is_new : goal.change-requires-clause-is_new
change-requires-clause-is_new c = λ given is differs.
    let items = c.self.inside.seats.items in
    let there = rw (← c.self.view_is, length-map) at c.requires.there in
    let seat = slice_get-map_there seat_task items c.args.cog c.index_mut.result.now there c.index_mut.ensures.value in
    let none = rw (← c.self.view_is) at c.requires.has_none in
    AreSeated-has_not c.self.inside.set (map seat_task items) c.args.cog given (seat_task c.index_mut.result.now)
    c.self.invariant seat differs (λ other apart. none other apart given is)

pub invariant_of-self : goal.invariant_of-self
invariant_of-self c =
    let items = c.self.inside.seats.items in
    let there = rw (← c.self.view_is) at c.requires.there in
    let within = rw length-map at there in
    let seat = slice_get-map_there seat_task items c.args.cog c.index_mut.result.now within c.index_mut.ensures.value in
    let none = rw (← c.self.view_is) at c.requires.has_none in
    rw (map-set, c.change.ensures.seat)
    (AreSeated-changed c.self.inside.set c.change.new.tasks (map seat_task items) c.args.cog
    (seat_task c.index_mut.result.now) c.args.task c.self.invariant there seat none c.change.ensures.has)

pub returns-clause-seats : goal.returns-clause-seats
returns-clause-seats c = rw (map-set, c.change.ensures.seat, ← c.self.view_is) refl
