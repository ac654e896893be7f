use Rattle.std.proofs.Common.{map}
use Rattle.std.specs.List.{list_all}
use Rattle.abs_program.specs.KnownNames.{has_name}
use Rattle.abs_tree.specs.DeclaredNames.{decls_names}
use Rattle.abs_tree.specs.SyntaxViews.{decl_tree}
use Rattle.abs_program.proofs.known.knows_names.Given as goal
use Rattle.list_facts.proofs.PassedLemmas.{PassedSoFar}

abbrev pub invariant-loop-declaration : goal.invariant-loop-declaration
invariant-loop-declaration l =
    PassedSoFar (λ items. list_all (has_name l.symbols) (decls_names (map (decl_tree l.symbols) items))) l.declarations l.declaration-index
