use Rattle.std.proofs.Common.{false}
use Rattle.abs_program.specs.NamedViews.{named_tree}
use Rattle.abs_tree.specs.SyntaxViews.{statements}
use Rattle.abs_types.proofs.KeepLemmas.{keeps_transitive, declarations_kept}
use Rattle.abs_types.specs.StatementOffences.{statements_offences}
use Rattle.abs_types.specs.TypeOffences.{main_frame}
use Rattle.check_obj.proofs.ProgramLemmas.{all_noted, noted_there, program_known, rows_kept, same_names}
use Rattle.check_obj.proofs.program.first_offence.Goals as goal

pub classes-requires : goal.classes-requires
classes-requires c =
    rw c.as_slice-2.ensures.value (rows_kept c.in_ok-interfaces.ensures.stays.keeps c.in_ok-rows.ensures.rows)

pub main_block-requires : goal.main_block-requires
main_block-requires c =
    let keeps = keeps_transitive c.in_ok-functions.ensures.keeps
    (keeps_transitive c.in_ok-rows.ensures.stays.keeps
    (keeps_transitive c.in_ok-interfaces.ensures.stays.keeps c.in_ok-classes.ensures.keeps)) in
    rw (same_names keeps, (program_known c.new-checker.ensures.knows).0) c.args.program.now.main_has_slots

pub returns : goal.returns
returns c =
    let main = c.args.program.now.main.statements.items in
    let known = program_known c.new-checker.ensures.knows in
    let to_rows = keeps_transitive c.in_ok-functions.ensures.keeps c.in_ok-rows.ensures.stays.keeps in
    let to_interfaces = keeps_transitive to_rows c.in_ok-interfaces.ensures.stays.keeps in
    let to_classes = keeps_transitive to_interfaces c.in_ok-classes.ensures.keeps in
    let of_functions = c.in_ok-functions.ensures.noted _ c.new-checker.ensures.knows in
    let of_interfaces = c.in_ok-interfaces.ensures.noted in
    let of_classes = c.in_ok-classes.ensures.noted in
    let of_main = noted_there c.new-checker.result c.classes.new.checker c.main_block.new.checker.first
    (λ names declarations. statements_offences declarations (main_frame (statements names main)) false
    (statements names main)) to_classes c.in_ok-main_block.ensures.noted in
    all_noted (named_tree c.args.program.now) c.new-checker.ensures.first of_functions
    (rw (c.method_rows.ensures.first, declarations_kept to_rows, known.1) at of_interfaces)
    (rw (declarations_kept to_interfaces, known.1) at of_classes) (rw (known.1, known.0) at of_main)
