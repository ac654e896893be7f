use Rattle.abs_program.specs.Instructions.{effect_of}
use Rattle.abs_tree.specs.SyntaxViews.{statement}
use Rattle.contract_infer.proofs.SettledWalkLemmas.{done_alone}
use Rattle.contract_infer.proofs.settled.Walk.alone.Goals as goal

pub returns : goal.returns
returns c names =
    done_alone (effect_of (statement names c.args.stmt.now)) (c.take_named-row.ensures names) c.push.ensures
    (c.settle_named.ensures names) (c.assign.ensures names)
