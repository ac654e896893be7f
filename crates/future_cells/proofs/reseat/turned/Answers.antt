-- Where the task is the first candidate, those of the other cogs stay.
use Rattle.std.proofs.Common.{refl}
use Rattle.future_cells.proofs.TurnLemmas.{seated-there, AreCandidatesBut-turned, GoAtHome-candidates}
use Rattle.future_cells.proofs.ReseatLemmas.{AreCandidates-reseated, GoAtHomeBut-candidates}
use Rattle.future_cells.proofs.reseat.turned.Goals as goal

pub at-cog-requires : goal.at-cog-requires
at-cog-requires c =
    let first = c.is_first.ensures c.if-is_first.true in
    seated-there c.args.posts.now.posts c.args.holders.now c.args.last c.args.task c.args.candidates.now.seats
    c.requires.candidates first.is_one

pub reseat-requires-clause-others : goal.reseat-requires-clause-others
reseat-requires-clause-others c =
    GoAtHomeBut-candidates _ _ _ _ _
    (AreCandidatesBut-turned c.args.posts.now.posts c.args.holders.now c.args.last c.args.task
    c.args.candidates.now.seats c.at-cog.result c.at-cog.ensures.post c.requires.candidates
    (c.is_first.ensures c.if-is_first.true))

pub returns-then-is_first-clause-candidates : goal.returns-then-is_first-clause-candidates
returns-then-is_first-clause-candidates c =
    AreCandidates-reseated _ _ _ _ _ _ _
    (AreCandidatesBut-turned c.args.posts.now.posts c.args.holders.now c.args.last c.args.task
    c.args.candidates.now.seats c.at-cog.result c.at-cog.ensures.post c.requires.candidates
    (c.is_first.ensures c.if-is_first.true))
    refl c.reseat.ensures.seats

pub reseat_all-requires-clause-home : goal.reseat_all-requires-clause-home
reseat_all-requires-clause-home c = GoAtHome-candidates _ _ _ _ c.requires.candidates
