use Rattle.std.proofs.lemmas.List.{map-set}
use Rattle.abs_values.specs.ValueViews.{value_tree}
use Rattle.abs_values.proofs.values.Values.set.Goals as goal

pub returns : goal.returns
returns c = rw (← c.self.view_is) (map-set value_tree c.self.inside.items.items c.args.index c.args.value)
