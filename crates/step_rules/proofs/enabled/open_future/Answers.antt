use Rattle.std.proofs.Common.{List, slice_get, sym, ap, ◌∙◌}
use Rattle.abs_values.specs.ValueTrees.{ValueTree}
use Rattle.abs_values.specs.ValueViews.{value_tree}
use Rattle.config_state.specs.ConfigViews.{configuration}
use Rattle.list_facts.proofs.EntryLemmas.{slice_get-map_there, slice_get-map_past}
use Rattle.step_rules.proofs.BlockedLemmas.{slot_open, no_slot_open}
use Rattle.step_rules.proofs.enabled.open_future.Goals as goal

pub returns-in-Some-get : goal.returns-in-Some-get
returns-in-Some-get c = λ symbols.
    let there = c.in-Some-get.ensures.lookup in
    slot_open (configuration symbols c.args.config.now) c.args.slots.now c.args.name c.in-Some.slot
    (value_tree c.in-Some-get.value.now) c.if_open.result c.in-Some.is
    (ap (λ (values : List ValueTree). slice_get values c.in-Some.slot) (sym c.as_slice.ensures)
    ∙ slice_get-map_there value_tree c.as_slice.result.now c.in-Some.slot c.in-Some-get.value.now there.3.0 there.1)
    (c.if_open.ensures symbols)

pub returns-in-None : goal.returns-in-None
returns-in-None c = λ symbols.
    no_slot_open (configuration symbols c.args.config.now) c.args.slots.now c.args.name c.in-Some.slot c.in-Some.is
    (ap (λ (values : List ValueTree). slice_get values c.in-Some.slot) (sym c.as_slice.ensures)
    ∙ slice_get-map_past value_tree c.as_slice.result.now c.in-Some.slot c.in-None.ensures.lookup.3)
