-- Each call on `this` is that of a term.
use Rattle.circularity_test.proofs.CallLemmas.{call_by_term}
use Rattle.circularity_test.proofs.PartLemmas.{gets_as, gets_each_all, gets_each_more, gets_each_none}
use Rattle.circularity_test.specs.Steps.{program_of}
use Rattle.circularity_test.proofs.steps.Steps.follow_calls.Goals as goal

pub loop-term-init : goal.loop-term-init
loop-term-init c = gets_each_none c.terms-term-items.result.now

pub loop-term-preserved : goal.loop-term-preserved
loop-term-preserved c =
    gets_each_more c.terms-term-items.result.now c.loop-term.term-index c.term-item.result c.loop-term-test.true
    c.term-item.is c.loop-term.invariant c.in_ok-follow_term.ensures

pub returns : goal.returns
returns c =
    let program = program_of c.args.self.now in
    let list = c.terms-term-items.result.now in
    gets_as (gets_each_all list c.loop-term.term-index c.loop-term-test.false c.loop-term.invariant)
    (λ edge step. call_by_term program c.terms.result.now c.terms.ensures.are c.args.class c.args.member list
    (c.terms-term-items.ensures program.names) c.args.sign.now edge step)
