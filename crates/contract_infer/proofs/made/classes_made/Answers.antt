use Rattle.std.proofs.Common.{arith, sym}
use Rattle.std.proofs.lemmas.Option.{slice_get_within}
use Rattle.abs_program.specs.InstructionViews.{instruction_tree}
use Rattle.abs_program.specs.Instructions.{instructions}
use Rattle.abs_program.specs.NamedViews.{named_tree}
use Rattle.contract_infer.proofs.MadeLemmas.{few_instructions, made_step, made_done}
use Rattle.contract_infer.proofs.made.classes_made.Goals as goal

pub overflow_add-index : goal.overflow_add-index
overflow_add-index c =
    let source = named_tree c.args.program.now in
    let tree = instruction_tree c.args.program.now.symbols c.in-Some.instruction.now in
    let there = slice_get_within (instructions source) c.loop-instruction.index tree (sym c.in-Some.ensures) in
    omega (arith, there, few_instructions source c.args.program.now.few_statements)

pub loop-instruction-smaller : goal.loop-instruction-smaller
loop-instruction-smaller c =
    let source = named_tree c.args.program.now in
    let tree = instruction_tree c.args.program.now.symbols c.in-Some.instruction.now in
    let there = slice_get_within (instructions source) c.loop-instruction.index tree (sym c.in-Some.ensures) in
    omega (arith, there)

pub loop-instruction-preserved : goal.loop-instruction-preserved
loop-instruction-preserved c =
    let names = c.args.program.now.symbols in
    made_step (instruction_tree names c.in-Some.instruction.now) c.loop-instruction.invariant (sym c.in-Some.ensures)
    (c.in_ok-add_instruction.ensures names)

pub returns : goal.returns
returns c = made_done c.loop-instruction.invariant (sym c.in_default.ensures)
