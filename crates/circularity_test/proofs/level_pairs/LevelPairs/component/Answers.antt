-- There is a component for each pair.
use Rattle.std.proofs.Common.{arith, length, refl}
use Rattle.std.proofs.lemmas.Option.{slice_get_read}
use Rattle.circularity_test.proofs.NodeLemmas.{has_component}
use Rattle.circularity_test.proofs.level_pairs.LevelPairs.component.Goals as goal

pub index-requires : goal.index-requires
index-requires c =
    let components = c.args.self.now.components in
    let within = has_component c.args.self.now.pairs components.items c.args.self.now.numbered c.args.index c.requires in
    omega (arith, within, components.ok)

pub returns : goal.returns
returns c =
    let components = c.args.self.now.components.items in
    slice_get_read components (length components) c.args.index c.index.result.now refl
    (has_component c.args.self.now.pairs components c.args.self.now.numbered c.args.index c.requires) c.index.ensures
