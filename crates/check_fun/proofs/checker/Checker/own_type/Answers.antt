use Rattle.std.proofs.Common.{◌≡◌, ◌∙◌, arith}
use Rattle.abs_tree.specs.Names.{name_of}
use Rattle.abs_types.specs.PlainTypes.{PlainData}
use Rattle.check_fun.proofs.ContextLemmas.{finds_stays, found_stays, stays_transitive}
use Rattle.check_fun.proofs.SchemeLemmas.{applied_found, found_so_far, so_far_next}
use Rattle.check_fun.proofs.checker.Checker.own_type.Goals as goal

pub applied-requires-clause-head : goal.applied-requires-clause-head
applied-requires-clause-head c = found_stays c.parameter.ensures.stays (found_so_far c.loop-index.invariant)

pub loop-index-preserved : goal.loop-index-preserved
loop-index-preserved c =
    so_far_next c.loop-index.invariant (c.applied.ensures.first ∙ c.parameter.ensures.first)
    (stays_transitive c.parameter.ensures.stays c.applied.ensures.stays)
    (λ context knows before. applied_found (PlainData (name_of context.names c.args.owner)) c.loop-index.index
    (c.in_ok-found-2.ensures.found _ _ (finds_stays c.parameter.ensures.stays before) c.in_ok-parameter.ensures.found))

pub returns-clause-found : goal.returns-clause-found
returns-clause-found c context knows =
    let all : c.args.parameters ≡ c.loop-index.index = omega arith in
    rw all (c.loop-index.invariant.found context knows)
