use Rattle.abs_program.specs.Instructions.{effect_of}
use Rattle.abs_tree.specs.SyntaxViews.{statement}
use Rattle.contract_infer.proofs.SettledWalkLemmas.{assigned_both}
use Rattle.contract_infer.proofs.settled.Walk.assign.Goals as goal

pub returns : goal.returns
returns c names =
    assigned_both (effect_of (statement names c.args.stmt.now)) c.hidden_of.result c.target_of.result
    (c.hidden_of.ensures names) (c.target_of.ensures names) c.clear.ensures c.clear-2.ensures
