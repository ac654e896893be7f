-- Candidates stay where a cog is added that no task is in.
use Rattle.future_cells.proofs.ReseatLemmas.{AreCandidates-cog_added}
use Rattle.future_cells.proofs.growth.add_cog.Goals as goal

pub returns-clause-candidates : goal.returns-clause-candidates
returns-clause-candidates c last are =
    AreCandidates-cog_added c.args.posts.now.posts c.push_cog.new.self.posts c.args.holders.now.items
    c.push_reserved.new.self.items last c.args.posts.now.cogs c.args.candidates.now.seats c.push.new.self.seats are
    c.requires.cogs c.push_cog.ensures.posts c.push_reserved.ensures.items c.push.ensures.seats
    c.push_cog.ensures.no_goers
