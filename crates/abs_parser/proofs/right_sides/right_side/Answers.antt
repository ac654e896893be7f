use Rattle.std.proofs.Common.{sym, ◌∙◌, arith}
use Rattle.abs_parser.specs.Views.{spot}
use Rattle.abs_parser.proofs.grammar.FirstPlaceLemmas.{found_within}
use Rattle.abs_parser.proofs.reader.RightSideSteps.{refused_rhs, rhs_begins, rhs_found}
use Rattle.abs_parser.proofs.reader.ResultLemmas.{parses_further, passed_on}
use Rattle.abs_parser.proofs.reader.FoundLemmas.{found_few}
use Rattle.abs_parser.proofs.reader.StepLemmas.{refused_inside}
use Rattle.abs_parser.proofs.right_sides.right_side.Goals as goal

pub returns-in_err-first : goal.returns-in_err-first
returns-in_err-first c =
    passed_on _ _ c.from_residual.result c.from_residual.ensures.1
    (refused_rhs c.args.depth (spot c.args.from) _ (sym c.is.ensures ∙ c.if-is.false) c.in_err-first.ensures)

pub right_side_tail-requires-clause-names : goal.right_side_tail-requires-clause-names
right_side_tail-requires-clause-names c =
    let few = found_few c.in_ok-first.ensures in
    omega arith

pub right_side_tail-requires-clause-depth : goal.right_side_tail-requires-clause-depth
right_side_tail-requires-clause-depth c = found_within c.in_ok-first.ensures

pub returns : goal.returns
returns c =
    let no_new = sym c.is.ensures ∙ c.if-is.false in
    parses_further _ _ c.right_side_tail.result
    (λ found. rhs_found c.in_ok-first.first found.0 no_new c.place.ensures c.in_ok-first.ensures)
    (λ error. refused_inside (rhs_begins no_new c.in_ok-first.ensures) error) c.right_side_tail.ensures
