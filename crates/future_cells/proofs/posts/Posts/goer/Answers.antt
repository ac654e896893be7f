use Rattle.std.proofs.Common.{length, refl, sym, ◌∙◌}
use Rattle.std.proofs.lemmas.Option.{slice_get_read}
use Rattle.future_cells.proofs.ItemLemmas.{IfNone-then}
use Rattle.future_cells.proofs.posts.Posts.goer.Goals as goal

pub returns-clause-none : goal.returns-clause-none
returns-clause-none c =
    let goers = c.self.inside.goers.items in
    let there = rw (← c.self.view_is) at c.requires in
    let set = slice_get_read goers (length goers) c.args.cog c.index.result.now refl there c.index.ensures in
    rw (← c.self.view_is)
    (IfNone-then c.first_going_round.result c.first_going_round.ensures.none
    (λ none task. sym (c.self.invariant.goers_are c.args.cog c.index.result.now set task) ∙ none task))
