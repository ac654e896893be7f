use Rattle.abs_prelude.proofs.NameLemmas.{name_within, name_part}
use Rattle.abs_prelude.proofs.text.name.Goals as goal

pub slice_bounds-result-end : goal.slice_bounds-result-end
slice_bounds-result-end c =
    name_within c.args.index c.from-start.result c.from.result c.as_bytes-text.result.now c.requires
    c.from-start.ensures c.from.ensures c.as_bytes-text.ensures.value

pub returns : goal.returns
returns c =
    name_part c.args.index c.from-start.result c.from.result c.as_bytes-text.result.now c.requires
    c.from-start.ensures c.from.ensures c.as_bytes-text.ensures.value
