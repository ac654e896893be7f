use Rattle.abs_program.specs.NamedViews.{program_tree}
use Rattle.show_run.proofs.StepLemmas.{moved_in_code, moved_in_code_again}
use Rattle.show_run.proofs.steps.step_or_retry.Goals as goal

-- where the first try does the event
pub returns-in-Ok-clause-there : goal.returns-in-Ok-clause-there
returns-in-Ok-clause-there c =
    moved_in_code (program_tree c.args.program.now) c.args.program.now.symbols c.args.config.now c.step.new.config
    c.args.task c.requires.has_step c.in-Ok.ensures.config

-- where the second one does
pub returns-clause-there : goal.returns-clause-there
returns-clause-there c =
    moved_in_code_again (program_tree c.args.program.now) c.args.program.now.symbols c.args.config.now
    c.step.new.config c.step-2.new.config c.args.task c.in_default.ensures.err_config c.requires.has_step
    c.in_ok-step.ensures.config
