use Rattle.std.proofs.Common.{option_map, ◌∙◌}
use Rattle.std.proofs.lemmas.Result.{IfOk-weaker}
use Rattle.abs_program.specs.InstructionViews.{class_entry_tree, instruction_tree, shared_expr_trees}
use Rattle.abs_program.specs.NamedViews.{program_tree}
use Rattle.abs_tree.specs.SyntaxViews.{expr_trees}
use Rattle.config_state.specs.ConfigViews.{configuration}
use Rattle.config_state.specs.Views.{frame_state, task_state}
use Rattle.fun_eval.specs.Reading.{scope_tree}
use Rattle.step_rules.proofs.BlockedLemmas.{task_found}
use Rattle.step_rules.proofs.ReadingLemmas.{none_found, output_found}
use Rattle.step_rules.proofs.reading.output.Goals as goal

pub returns-in_default : goal.returns-in_default
returns-in_default c = λ input found.
    let names = c.args.program.now.symbols in
    let none = none_found (program_tree c.args.program.now) (configuration names c.args.config.now)
    c.args.task (task_state names c.at-cell.result.now)
    (task_found names c.args.config.now c.args.task c.at-cell.result.now c.at-cell.ensures)
    (c.in_default.ensures names) in
    absurd (cc (none, found))

pub returns : goal.returns
returns c =
    let names = c.args.program.now.symbols in
    IfOk-weaker c.eval_all_in.result _ _ (λ output is input found. is
    ∙ output_found (program_tree c.args.program.now) (configuration names c.args.config.now) c.args.task
    (task_state names c.at-cell.result.now) (frame_state names c.in-Some.frame.now)
    (option_map (λ found. instruction_tree names found.now) c.next_instruction-instruction.result)
    (option_map (λ entry. class_entry_tree names entry.now) c.made_class.result)
    (task_found names c.args.config.now c.args.task c.at-cell.result.now c.at-cell.ensures)
    (c.in-Some.ensures names) c.next_instruction-instruction.ensures c.made_class.ensures (record {
      scope = scope_tree c.scope.result;
      expr_trees = expr_trees names c.exprs.result.now;
      initials = shared_expr_trees names c.initials.result.now;
    }) input (c.scope.ensures names) (c.exprs.ensures names) (c.initials.ensures names) found)
    c.eval_all_in.ensures
