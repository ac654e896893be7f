use Rattle.std.proofs.Common.{rules, ◌∙◌}
use Rattle.abs_program.specs.NamedViews.{program_tree}
use Rattle.step_rules.proofs.HasStepLemmas.{ended_step, held_step, free_step}
use Rattle.step_rules.proofs.enabled.has_step.Goals as goal

pub returns-then-is_some : goal.returns-then-is_some
returns-then-is_some c =
    ended_step (program_tree c.args.program.now) c.args.program.now.symbols c.args.config.now c.args.task
    c.at-cell.result.now c.at-cell.ensures (search rules)

pub returns-then-is_free_for : goal.returns-then-is_free_for
returns-then-is_free_for c =
    free_step (program_tree c.args.program.now) c.args.program.now.symbols c.args.config.now c.args.task
    c.at-cell.result.now c.at-cell.ensures c.requires.of_program (search rules)
    (c.if-is_free_for.ensures c.args.program.now.symbols) c.is_none.result c.waited_future.result c.is_none.ensures
    c.waited_future.ensures.some c.waited_future.ensures.none

pub returns-else-is_free_for : goal.returns-else-is_free_for
returns-else-is_free_for c =
    c.if-is_free_for.false ∙ held_step (program_tree c.args.program.now) c.args.program.now.symbols
    c.args.config.now c.args.task c.at-cell.result.now c.at-cell.ensures c.requires.of_program (search rules)
    (c.if-is_free_for.ensures c.args.program.now.symbols)
