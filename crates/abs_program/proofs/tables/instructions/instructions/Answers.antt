use Rattle.std.proofs.Common.{List, arith, ap, refl, ◌∙◌, map}
use Rattle.abs_program.proofs.CountLemmas.{counts_both}
use Rattle.abs_program.proofs.MakerLemmas.{instructions_made, may_make_counted, may_make_first}
use Rattle.abs_program.specs.InstructionViews.{instruction_tree}
use Rattle.abs_tree.specs.SyntaxSizes.{statement_count}
use Rattle.abs_tree.specs.SyntaxViews.{statements, tree_of_parts}
use Rattle.abs_tree.specs.declared.syntax.statement.Stmt.{Stmt}
use Rattle.abs_program.specs.declared.tables.control.Instruction.{Instruction}
use Rattle.abs_program.proofs.tables.instructions.instructions.Goals as goal

pub count_declarations-requires : goal.count_declarations-requires
count_declarations-requires c = (c.args.symbols.now, omega (arith, c.requires.few))

pub overflow_add-next : goal.overflow_add-next
overflow_add-next c =
    let names = c.args.symbols.now in
    omega (
      arith,
      c.requires.few,
      (c.in_ok-in_methods.ensures names).count_is,
      (c.in_ok-next.ensures names).count_is,
      ap (λ (stmts : List Stmt). statement_count (statements names stmts)) c.as_slice-main.ensures.value,
    )

pub add_declarations-requires : goal.add_declarations-requires
add_declarations-requires c =
    let names = c.args.symbols.now in
    let counts = counts_both (c.in_ok-in_methods.ensures names) (c.in_ok-next.ensures names) in
    (names, may_make_first (may_make_counted counts refl) (c.in_ok-add_statements.ensures names).makes)

pub returns : goal.returns
returns c =
    let names = c.args.symbols.now in
    let source = tree_of_parts names c.args.declarations.now c.args.main.now in
    let main_is = c.as_slice-main.ensures.value in
    let counted = ap (λ (stmts : List Stmt). statement_count (statements names stmts)) main_is in
    let main = rw main_is at (c.in_ok-add_statements.ensures names).makes in
    ap (λ (made : List Instruction). map (instruction_tree names) made) c.reverse.ensures.items
    ∙ instructions_made source main (c.in_ok-add_declarations.ensures names)
    (omega (
      arith,
      counted,
      (c.in_ok-in_methods.ensures names).count_is,
      (c.in_ok-next.ensures names).count_is,
    ))
    c.in_ok-with_capacity.ensures.items
