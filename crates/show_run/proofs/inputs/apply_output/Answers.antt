use Rattle.abs_program.specs.NamedViews.{program_tree}
use Rattle.show_run.proofs.StepLemmas.{moved_in_code}
use Rattle.show_run.proofs.inputs.apply_output.Goals as goal

-- the task of the event is there after it
pub returns-clause-there : goal.returns-clause-there
returns-clause-there c =
    moved_in_code (program_tree c.args.program.now) c.args.program.now.symbols c.args.config.now c.apply.new.config
    c.args.task c.requires.has_step c.in_ok-apply.ensures.config
