use Rattle.check_fun.proofs.ContextLemmas.{finds_stays, found_stays}
use Rattle.check_obj.proofs.BodyLemmas.{ends_otherwise}
use Rattle.check_obj.proofs.methods.ends_well.Goals as goal

pub are_same-requires-clause-one : goal.are_same-requires-clause-one
are_same-requires-clause-one c = (found_stays c.in_ok-unit.ensures.stays c.requires).among

pub returns-else-are_same-clause-reported : goal.returns-else-are_same-clause-reported
returns-else-are_same-clause-reported c names type finds =
    ends_otherwise names c.args.stmts.now (finds_stays c.in_ok-unit.ensures.stays finds) c.in_ok-unit.ensures.found
    c.are_same.ensures c.if-are_same.false (c.ends_with_return.ensures names)
