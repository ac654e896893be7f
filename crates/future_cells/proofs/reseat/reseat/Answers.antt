-- A candidate goes in its cog, and so it has the seat of no other.
use Rattle.future_cells.proofs.ReseatLemmas.{not_seated-elsewhere}
use Rattle.future_cells.proofs.reseat.reseat.Goals as goal

pub seat-requires-clause-has_none : goal.seat-requires-clause-has_none
seat-requires-clause-has_none c =
    not_seated-elsewhere c.args.posts.now.posts c.args.holders.now c.args.last c.args.cog c.args.candidates.now.seats
    c.candidate_of-candidate.result c.requires.others c.candidate_of-candidate.ensures
