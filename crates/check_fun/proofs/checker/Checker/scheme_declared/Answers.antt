use Rattle.std.proofs.Common.{◌≡◌, length, arith}
use Rattle.std.proofs.lemmas.List.{length-map}
use Rattle.abs_tree.specs.SyntaxViews.{declared}
use Rattle.check_fun.proofs.ContextLemmas.{finds_all_stays, knows_stays, stays_transitive}
use Rattle.check_fun.proofs.SchemeLemmas.{scheme_found}
use Rattle.check_fun.proofs.checker.Checker.scheme_declared.Goals as goal

pub returns-in_ok-written-in-Function-clause-found : goal.returns-in_ok-written-in-Function-clause-found
returns-in_ok-written-in-Function-clause-found c context knows =
    let stays = c.in_ok-param_types-in-Function.ensures.stays in
    let parameters : length c.in-Function.type_params.items ≡ c.in_ok-counted-in-Function.field-0 =
    omega (arith, c.in_ok-counted-in-Function.ensures, c.len.ensures, c.in-Function.type_params.ok.0) in
    rw (c.in-Function.is, length-map c.in-Function.type_params.items (declared context.names), parameters)
    (scheme_found c.in_ok-counted-in-Function.field-0 c.in_ok-param_types-in-Function.field-0
    (finds_all_stays c.written.ensures.stays
    (rw c.as_slice.ensures.value at (c.in_ok-param_types-in-Function.ensures.found context knows)))
    (c.in_ok-written-in-Function.ensures.found context (knows_stays stays knows)))

pub returns-in_ok-written-in-Function-clause-stays : goal.returns-in_ok-written-in-Function-clause-stays
returns-in_ok-written-in-Function-clause-stays c =
    stays_transitive c.in_ok-param_types-in-Function.ensures.stays c.written.ensures.stays
