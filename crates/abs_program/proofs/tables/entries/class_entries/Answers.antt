use Rattle.std.proofs.Common.{List, map, ap, ◌∙◌}
use Rattle.std.proofs.lemmas.List.{take_all}
use Rattle.abs_program.proofs.ClassEntryLemmas.{entries_are}
use Rattle.abs_program.proofs.tables.entries.class_entries.Goals as goal
use Rattle.abs_program.specs.Bodies.{entry_of_class}
use Rattle.abs_tree.specs.SyntaxViews.{decl_tree}
use Rattle.abs_tree.specs.declared.syntax.declaration.Decl.{Decl}

pub returns : goal.returns
returns c class =
    let names = c.args.symbols.now in
    let all = c.args.declarations.now in
    entries_are names (map (decl_tree names) all) c.loop-declaration.entries.items class
    (c.loop-declaration.invariant ∙ ap (λ (some : List Decl). map entry_of_class (map (decl_tree names) some))
    (take_all c.loop-declaration.declaration-index all c.loop-declaration-test.false))
