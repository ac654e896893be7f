use Rattle.abs_program.specs.NamedViews.{program_tree}
use Rattle.saturation.proofs.AddedLemmas.{ok_then}
use Rattle.saturation.proofs.BodyUseLemmas.{method_terms, no_terms}
use Rattle.saturation.proofs.uses.Uses.add_method.Goals as goal
use Rattle.saturation.specs.declared.body.Body.TheVariants as body

pub returns-in_ok-member-in-Some : goal.returns-in_ok-member-in-Some
returns-in_ok-member-in-Some c =
    let program = program_tree c.args.program.now in
    rw c.in-Some.is
    (ok_then c.add_terms.result
    (λ added. method_terms program c.args.class c.in_ok-member-in-Some.ensures c.as_slice.ensures.value added)
    c.add_terms.ensures)

pub returns-in-None : goal.returns-in-None
returns-in-None c =
    rw c.in-None.is (no_terms (program_tree c.args.program.now) (body.Method c.args.class c.args.index))
