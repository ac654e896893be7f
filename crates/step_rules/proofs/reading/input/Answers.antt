use Rattle.std.proofs.Common.{option_map}
use Rattle.abs_program.specs.InstructionViews.{class_entry_tree, instruction_tree}
use Rattle.abs_program.specs.NamedViews.{program_tree}
use Rattle.config_state.specs.ConfigViews.{configuration}
use Rattle.config_state.specs.Views.{frame_state, task_state}
use Rattle.step_rules.proofs.BlockedLemmas.{task_found}
use Rattle.step_rules.proofs.ReadingLemmas.{none_found, input_found, input_if_event}
use Rattle.step_rules.proofs.reading.input.Goals as goal

pub unreachable-requires : goal.unreachable-requires
unreachable-requires c =
    let names = c.args.program.now.symbols in
    input_if_event (program_tree c.args.program.now) (configuration names c.args.config.now) c.args.task
    c.requires.has_step (none_found (program_tree c.args.program.now) (configuration names c.args.config.now)
    c.args.task (task_state names c.at-cell.result.now)
    (task_found names c.args.config.now c.args.task c.at-cell.result.now c.at-cell.ensures)
    (c.in_default.ensures names))

pub returns : goal.returns
returns c =
    let names = c.args.program.now.symbols in
    input_found (program_tree c.args.program.now) (configuration names c.args.config.now) c.args.task
    (task_state names c.at-cell.result.now) (frame_state names c.in-Some.frame.now)
    (option_map (λ found. instruction_tree names found.now) c.next_instruction-instruction.result)
    (option_map (λ entry. class_entry_tree names entry.now) c.made_class.result)
    (task_found names c.args.config.now c.args.task c.at-cell.result.now c.at-cell.ensures)
    (c.in-Some.ensures names) c.next_instruction-instruction.ensures c.made_class.ensures _
    (c.in_ok-env.ensures names) (c.in_ok-shared_exprs.ensures names) (c.in_ok-shared_initials.ensures names)
