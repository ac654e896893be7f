-- The candidates of other cogs stay where the holder of a cog changes.
use Rattle.std.proofs.Common.{arith}
use Rattle.std.proofs.Math.ListN.{length-set}
use Rattle.future_cells.proofs.ReseatLemmas.{AreCandidates-reseated, AreCandidatesBut-held, GoAtHomeBut-candidates}
use Rattle.future_cells.proofs.ready.Ready.hold.Goals as goal

pub reseat-requires-clause-others : goal.reseat-requires-clause-others
reseat-requires-clause-others c =
    let parts = c.self.inside in
    GoAtHomeBut-candidates _ _ _ _ _
    (AreCandidatesBut-held parts.posts.posts parts.holders.items parts.last parts.candidates.seats c.args.cog
    c.args.holder c.self.invariant.0)

pub invariant_of-self : goal.invariant_of-self
invariant_of-self c =
    let parts = c.self.inside in
    let long = length-set parts.holders.items c.args.cog c.args.holder in (
      AreCandidates-reseated _ _ _ _ _ _ _
          (AreCandidatesBut-held parts.posts.posts parts.holders.items parts.last parts.candidates.seats c.args.cog
          c.args.holder c.self.invariant.0)
          c.deref.ensures.value c.reseat.ensures.seats,
      omega arith,
      omega arith,
      omega (arith, long),
      omega arith,
      omega arith,
      omega arith,
      omega arith,
      omega arith,
    )
