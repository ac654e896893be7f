use Rattle.std.proofs.Common.{◌+◌, length, refl}
use Rattle.abs_values.proofs.EarlierLemmas.{AllComeFromEarlier, initial_outcomes-read}
use Rattle.abs_values.proofs.ReferenceLemmas.{AllComeFrom, evaluate-reads}
use Rattle.abs_values.proofs.ResultLemmas.{IfGives-at, IfAllGive-at}
use Rattle.abs_values.proofs.laws.references_are_read.Goals as goal
use Rattle.abs_values.specs.Evaluation.{evaluate, initial_outcomes}

pub returns : goal.returns
returns c = record {
  expression = λ library scope left expr_tree made value reference gives. IfGives-at
      (evaluate library scope left expr_tree made).result (AllComeFrom scope expr_tree) value gives
      (evaluate-reads library left scope expr_tree made) reference;
  initial = λ library expr_trees arguments values made gives index expr_tree there. IfAllGive-at
      (initial_outcomes library expr_trees arguments made).results (AllComeFromEarlier (length arguments) expr_trees) values
      gives (initial_outcomes-read library expr_trees arguments made) index expr_tree there (length arguments + index) refl;
}
