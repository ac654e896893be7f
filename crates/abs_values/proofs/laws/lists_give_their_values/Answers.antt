use Rattle.std.proofs.Common.{◌≡◌, ◌+◌, length, refl}
use Rattle.abs_values.proofs.ListOutcomeLemmas.{AreGiven, outcomes_of-each, outcomes_of-count, Keeps, initial_outcomes-keep, initial_outcomes-count, AreGivenInOrder, initial_outcomes-each, results_of-gives}
use Rattle.abs_values.proofs.ResultLemmas.{IfAllGive-at}
use Rattle.abs_values.proofs.laws.lists_give_their_values.Goals as goal
use Rattle.abs_values.specs.Evaluation.{outcomes_of, initial_outcomes}
use Rattle.abs_tree.specs.SyntaxCounts.{count_exprs}

pub returns : goal.returns
returns c = record {
  count = λ give expr_trees made values gives. IfAllGive-at (outcomes_of give expr_trees made).results
      (λ values. length values ≡ count_exprs expr_trees) values gives (outcomes_of-count give expr_trees made);
  each = λ give expr_trees made values gives. IfAllGive-at (outcomes_of give expr_trees made).results
      (AreGiven give expr_trees) values gives (outcomes_of-each give expr_trees made);
  initial_count = λ library expr_trees arguments values made gives. IfAllGive-at
      (initial_outcomes library expr_trees arguments made).results
      (λ values. length values ≡ length arguments + count_exprs expr_trees) values gives
      (initial_outcomes-count library expr_trees arguments made);
  arguments = λ library expr_trees arguments values made gives. IfAllGive-at
      (initial_outcomes library expr_trees arguments made).results (Keeps arguments) values gives
      (initial_outcomes-keep library expr_trees arguments made);
  initial_each = λ library expr_trees arguments values made gives index expr_tree there. IfAllGive-at
      (initial_outcomes library expr_trees arguments made).results
      (AreGivenInOrder library (length arguments) expr_trees) values gives
      (initial_outcomes-each library expr_trees arguments made) index expr_tree there (length arguments + index) refl;
  statement = results_of-gives;
}
