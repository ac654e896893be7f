use Rattle.abs_program.specs.NamedViews.{program_tree}
use Rattle.config_state.specs.Views.{frame_state}
use Rattle.step_rules.proofs.ReadingLemmas.{instruction_found}
use Rattle.step_rules.proofs.reading.next_instruction.Goals as goal

pub returns-in_ok-frame-in-Running : goal.returns-in_ok-frame-in-Running
returns-in_ok-frame-in-Running c =
    rw c.in-Running.is (instruction_found (program_tree c.args.program.now)
    (frame_state c.args.program.now.symbols c.args.frame.now) c.in_ok-frame-in-Running.field-0 _
    c.in_ok-frame-in-Running.was c.instruction.ensures)
