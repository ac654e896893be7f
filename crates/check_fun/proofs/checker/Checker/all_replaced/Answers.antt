use Rattle.check_fun.proofs.ContextLemmas.{found_stays, found_all_stays}
use Rattle.check_fun.proofs.ListLemmas.{found_at, replaced_none, replaced_pushed, replaced_all}
use Rattle.check_fun.proofs.checker.Checker.all_replaced.Goals as goal

pub loop-index-init : goal.loop-index-init
loop-index-init c = rw c.in_ok-found.ensures.items (replaced_none c.args.types.now)

pub replaced-requires-clause-types : goal.replaced-requires-clause-types
replaced-requires-clause-types c = found_all_stays c.loop-index.invariant.stays c.requires.types

pub replaced-requires-clause-index : goal.replaced-requires-clause-index
replaced-requires-clause-index c =
    found_stays c.loop-index.invariant.stays
    (found_at c.loop-index.index-index _ c.loop-index-test.true c.requires.indices)

pub loop-index-preserved : goal.loop-index-preserved
loop-index-preserved c =
    rw c.in_ok-push.ensures.items
    (replaced_pushed c.args.types.now c.args.indices.now c.loop-index.found.items c.loop-index.index-index _
    c.in_ok-replaced.field-0 c.loop-index.invariant c.loop-index-test.true c.requires.types c.requires.indices
    c.in_ok-replaced.ensures.found c.in_ok-replaced.ensures.first c.in_ok-replaced.ensures.stays)

pub returns-clause-found : goal.returns-clause-found
returns-clause-found c =
    replaced_all c.args.types.now c.args.indices.now c.loop-index.found.items c.loop-index.index-index
    c.loop-index.invariant c.loop-index-test.false
