use Rattle.std.proofs.Common.{List, sym, ap, ◌∙◌}
use Rattle.std.specs.Prelude.{slice_get}
use Rattle.std.proofs.lemmas.Option.{slice_get-map}
use Rattle.abs_program.proofs.tables.control.Control.new.Goals as goal
use Rattle.abs_program.specs.InstructionViews.{instruction_tree}
use Rattle.abs_program.specs.Instructions.{InstructionTree}
use Rattle.abs_program.specs.KeptControl.{instruction_at}

pub returns : goal.returns
unfolding instruction_at
returns c = record {
  finds = λ index.
      sym (slice_get-map (instruction_tree c.args.symbols.now) c.in_ok-instructions.field-0.items index)
      ∙ ap (λ (found : List InstructionTree). slice_get found index) c.in_ok-instructions.ensures;
  main_is = c.in_ok-entries.ensures.main;
  methods_are = c.in_ok-entries.ensures.methods;
  classes_are = c.in_ok-class_entries.ensures;
}
