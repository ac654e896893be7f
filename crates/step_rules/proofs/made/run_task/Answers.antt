use Rattle.std.proofs.Common.{refl, ap, ◌∙◌, map}
use Rattle.abs_program.specs.InstructionViews.{class_entry_tree}
use Rattle.abs_tree.specs.Names.{name_of}
use Rattle.abs_program.specs.NamedViews.{program_tree}
use Rattle.abs_values.specs.ValueViews.{value_tree}
use Rattle.config_state.specs.Views.{task_state}
use Rattle.step_rules.proofs.RunLemmas.{run_is_named, run_without_body, run_starts}
use Rattle.step_rules.proofs.made.run_task.Goals as goal

pub returns-in_default : goal.returns-in_default
returns-in_default c =
    let program = c.args.program.now in
    let class = name_of program.symbols c.args.class in
    let run = c.symbol_of-run.result in
    let named = run_is_named program class (class_entry_tree program.symbols c.args.entry.now) run
    c.args.entry.now.run c.requires refl c.if-is_none.ensures c.symbol_of-run.ensures in
    run_without_body (program_tree program) c.args.cog c.args.object class (name_of program.symbols run) named
    c.args.entry.now.run c.in_default.ensures

pub returns : goal.returns
returns c =
    let program = c.args.program.now in
    let class = name_of program.symbols c.args.class in
    let run = c.symbol_of-run.result in
    let named = run_is_named program class (class_entry_tree program.symbols c.args.entry.now) run
    c.args.entry.now.run c.requires refl c.if-is_none.ensures c.symbol_of-run.ensures in
    run_starts (program_tree program) c.args.cog c.args.object class (name_of program.symbols run) named
    c.args.entry.now.run c.in-Some.body (task_state program.symbols c.in_ok-task_for.field-0) c.new-arguments.result
    c.if-is_none.ensures (c.new-arguments.ensures ∙ ap (map value_tree) c.new.ensures.items) c.in-Some.ensures
    (c.in_ok-task_for.ensures program.symbols)
