-- Lists of expressions and branches keep types, where what each of their expressions gives does.
--
--   `outcomes_of_have`         a list of expressions
--   `branches_outcome_has`     the branches of a `case`
use Rattle.std.proofs.Common.{◌≡◌, ℕ, true, List, ◌∷◌, ◌++◌, Option, Some, None, refl, map}
use Rattle.std.specs.Prelude.{All}
use Rattle.std.proofs.lemmas.List.Elements.{All-head, All-tail}
use Rattle.abs_profile.specs.Accepted.{IsAcceptedProgram}
use Rattle.abs_tree.specs.Syntax.{ExprTree, ExprTrees, NoExpr, NextExpr, Branches, NoBranch, NextBranch, ProgramTree}
use Rattle.abs_types.proofs.ReplacementLemmas.{fits-replaced}
use Rattle.abs_types.specs.Applications.{replaced}
use Rattle.abs_types.specs.HasType.{HasType, HaveTypes, HaveBranches, no_expr, next_expr, no_branch, next_branch}
use Rattle.abs_types.specs.PlainTypes.{PlainType}
use Rattle.abs_types.specs.Subtyping.{fits}
use Rattle.abs_types.specs.Typing.{Frame}
use Rattle.abs_values.specs.Evaluation.{Outcome, branches_outcome, outcomes_of}
use Rattle.abs_values.specs.Operations.{matched}
use Rattle.abs_values.specs.ValueTrees.{ValueTree}
use Rattle.type_sound.proofs.MatchLemmas.{matched_have}
use Rattle.type_sound.proofs.OutcomeLemmas.{outcomes_after_have, results_with_have, result_up}
use Rattle.type_sound.specs.Values.{World, ValueHas, AllHave, ResultHas, ResultsHave}

module _ (program : ProgramTree) (world : World) (types : List PlainType) (frame : Frame) where
  -- a list of expressions
  pub outcomes_of_have : (bound : List PlainType) (give : ExprTree → ℕ → Outcome)
      → ((expr_tree : ExprTree) (made : ℕ) (type : PlainType)
      → HasType program.source.declarations frame bound expr_tree type
      → ResultHas program world (give expr_tree made).result (replaced types type))
      → (expr_trees : ExprTrees) (given : List PlainType) (made : ℕ)
      → HaveTypes program.source.declarations frame bound expr_trees given
      → ResultsHave program world (outcomes_of give expr_trees made).results (map (replaced types) given)
  outcomes_of_have bound give given_has NoExpr _ made (no_expr b) = tt
  outcomes_of_have bound give given_has (NextExpr first others) _ made (next_expr b f o type given has have) =
      outcomes_after_have program world (give first made) _ (replaced types type) (map (replaced types) (type ∷ given))
      (given_has first made type has)
      (λ value now value_has. results_with_have program world value (outcomes_of give others now).results
      (replaced types type) (map (replaced types) given) value_has
      (outcomes_of_have bound give given_has others given now have))

  -- the branches of a `case`: the first whose pattern matches is taken, and its type fits that of the whole
  pub branches_outcome_has : IsAcceptedProgram program → (bound : List PlainType) (subject type : PlainType)
      (give : List ValueTree → ExprTree → ℕ → Outcome)
      → ((variables : List PlainType) (values : List ValueTree) (expr_tree : ExprTree) (made : ℕ) (own : PlainType)
      → AllHave program world values (map (replaced types) variables)
      → HasType program.source.declarations frame (bound ++ variables) expr_tree own
      → ResultHas program world (give values expr_tree made).result (replaced types own))
      → (branches : Branches) (owns : List PlainType) (value : ValueTree) (made : ℕ)
      → HaveBranches program.source.declarations frame bound subject branches owns
      → All (λ (own : PlainType). fits program.source.declarations own type ≡ true) owns
      → ValueHas program world value (replaced types subject)
      → ResultHas program world (branches_outcome program.names give branches value made).result (replaced types type)
  branches_outcome_has accepted bound subject type give given_has NoBranch _ value made (no_branch b s) fit has =
      (λ same. absurd cc)
  branches_outcome_has accepted bound subject type give given_has (NextBranch pattern first others) _ value made
      (next_branch b s p v o variables own owns matches first_has more) fit has =
      by_match (matched program.names pattern value) refl
      (branches_outcome_has accepted bound subject type give given_has others owns value made more
      (All-tail (λ (one : PlainType). fits program.source.declarations one type ≡ true) own owns fit) has)
    where
      by_match : (found : Option (List ValueTree)) → matched program.names pattern value ≡ found
          → ResultHas program world (branches_outcome program.names give others value made).result
          (replaced types type)
          → ResultHas program world (branches_outcome program.names give (NextBranch pattern first others) value
          made).result (replaced types type)
      by_match (Some values) is later = rw is
          (result_up program world (give values first made).result (replaced types own) (replaced types type)
          (fits-replaced program.source.declarations types own type
          (All-head (λ (one : PlainType). fits program.source.declarations one type ≡ true) own owns fit))
          (given_has variables values first made own
          (matched_have program world accepted types subject pattern variables value values matches has is) first_has))
      by_match None is later = rw is later
