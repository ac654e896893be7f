use Rattle.std.proofs.Common.{◌∙◌, sym, ap}
use Rattle.abs_types.specs.Holds.{holds_futures_in}
use Rattle.abs_types.proofs.holds.+futures.Goals as goal
use Rattle.abs_tree.proofs.FormLemmas.{data_tree}

pub holds_futures-returns-in-Data : goal.holds_futures-returns-in-Data
holds_futures-returns-in-Data t c = λ names.
    c.any_holds_futures.ensures names
    ∙ ap holds_futures_in (sym (data_tree names _ _ _ c.in-Data.arguments _ c.in-Data.is c.deref.ensures.value))
