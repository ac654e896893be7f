use Rattle.std.proofs.Common.{get_or}
use Rattle.std.proofs.lemmas.Option.{slice_get-get_or}
use Rattle.future_cells.proofs.SetLemmas.{has_at-removed}
use Rattle.future_cells.proofs.set_lists.remove_at.Goals as goal

pub returns-clause-has : goal.returns-clause-has
returns-clause-has c =
    let sets = c.args.sets.now in
    let set = c.index-sets-index.result in
    let is = slice_get-get_or sets c.args.index set c.requires.there in
    has_at-removed sets c.args.index c.args.task (get_or sets c.args.index set) c.remove.new.self is c.remove.ensures.has
