use Rattle.std.proofs.Common.{sym, ◌∙◌}
use Rattle.config_state.specs.ConfigViews.{configuration}
use Rattle.step_rules.proofs.BlockedLemmas.{none_open_more, none_open_all, one_open}
use Rattle.step_rules.proofs.enabled.first_open.Goals as goal

pub returns-then-is_some : goal.returns-then-is_some
returns-then-is_some c = λ symbols.
    one_open (configuration symbols c.args.config.now) c.args.slots.now c.args.names.now c.loop-name.name-index
    c.open_future-future.result c.loop-name-test.true (sym c.is_some.ensures ∙ c.if-is_some.true)
    (c.open_future-future.ensures symbols)

pub loop-name-preserved : goal.loop-name-preserved
loop-name-preserved c = λ symbols.
    none_open_more (configuration symbols c.args.config.now) c.args.slots.now c.args.names.now c.loop-name.name-index
    c.open_future-future.result c.loop-name-test.true (sym c.is_some.ensures ∙ c.if-is_some.false)
    (c.open_future-future.ensures symbols) (c.loop-name.invariant symbols)

pub returns : goal.returns
returns c = λ symbols.
    none_open_all (configuration symbols c.args.config.now) c.args.slots.now c.args.names.now c.loop-name.name-index
    c.loop-name-test.false (c.loop-name.invariant symbols)
