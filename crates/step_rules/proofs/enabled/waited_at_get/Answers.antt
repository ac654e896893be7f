use Rattle.std.proofs.Common.{option_map}
use Rattle.abs_program.specs.NamedViews.{program_tree}
use Rattle.abs_tree.specs.SyntaxViews.{variable_tree}
use Rattle.config_state.specs.ConfigViews.{configuration}
use Rattle.config_state.specs.Views.{frame_state, task_state}
use Rattle.step_rules.proofs.BlockedLemmas.{open_get_by}
use Rattle.step_rules.proofs.enabled.waited_at_get.Goals as goal

pub returns-in-Some-Get : goal.returns-in-Some-Get
returns-in-Some-Get c =
    let names = c.args.program.now.symbols in
    open_get_by (program_tree c.args.program.now) (configuration names c.args.config.now)
    (task_state names c.args.cell.now) (frame_state names c.in-Some.frame.now) (c.in-Some.ensures names)
    c.in-Some-Get.slot (option_map (variable_tree names) c.in-Some-Get.field-0-1) c.open_future.result
    (rw c.in-Some-Get.field-0-is at c.in-Some-Get.ensures) (c.open_future.ensures names)
