use Rattle.std.proofs.Common.{map, ap, ◌∙◌}
use Rattle.std.proofs.lemmas.List.{map_push}
use Rattle.abs_program.proofs.BodyRowLemmas.{each_start, each_step, each_done, entries_found, items_of, main_found}
use Rattle.abs_program.proofs.tables.entries.body_entries.Goals as goal
use Rattle.abs_tree.specs.SyntaxViews.{tree_of_parts}

pub loop-declaration-init : goal.loop-declaration-init
loop-declaration-init c = each_start c.args.declarations.now (ap (map items_of) c.new-methods.ensures.items)

pub loop-declaration-preserved : goal.loop-declaration-preserved
loop-declaration-preserved c =
    each_step c.declaration-item.result c.in_ok-declaration_row.field-0.items c.loop-declaration.invariant
    c.loop-declaration-test.true c.declaration-item.is c.in_ok-declaration_row.ensures
    (ap (map items_of) c.in_ok-push.ensures.items
    ∙ map_push items_of c.loop-declaration.methods.items c.in_ok-declaration_row.field-0)

pub returns-clause-main : goal.returns-clause-main
returns-clause-main c =
    let names = c.args.symbols.now in
    main_found (tree_of_parts names c.args.declarations.now c.args.main.now)
    (each_done names c.requires.methods_have_slots c.loop-declaration.invariant c.loop-declaration-test.false)
    (c.in_ok-entry.ensures names c.requires.main_has_slots)

pub returns-clause-methods : goal.returns-clause-methods
returns-clause-methods c class member =
    entries_found c.loop-declaration.methods.items class member
    (each_done c.args.symbols.now c.requires.methods_have_slots c.loop-declaration.invariant
    c.loop-declaration-test.false)
