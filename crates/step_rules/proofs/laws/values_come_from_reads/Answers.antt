use Rattle.abs_program.specs.Instructions.{expr_trees_of, effect_of}
use Rattle.abs_values.specs.Scopes.{library_of}
use Rattle.step_rules.proofs.OwnValueLemmas.{own_values-read}
use Rattle.step_rules.proofs.laws.values_come_from_reads.Goals as goal
use Rattle.step_rules.specs.Inputs.{scope_of, initials_for}

pub returns : goal.returns
returns c = λ program config at point values running index expr_tree is value there reference.
    own_values-read (library_of program) (scope_of config at.frame) (expr_trees_of point.statement)
    (initials_for program (effect_of point.statement)) values running.gives index expr_tree is value there reference
