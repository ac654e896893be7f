use Rattle.std.proofs.Common.{[], map}
use Rattle.abs_graph.specs.Views.{graph_of}
use Rattle.abs_program.specs.KeptSpaces.{spaces_by_name}
use Rattle.abs_program.specs.Supertypes.{supertypes_in}
use Rattle.abs_tree.specs.SyntaxViews.{decl_tree}
use Rattle.abs_program.proofs.tables.supertypes.supertype_graph.Given as goal
use Rattle.list_facts.proofs.AddedLemmas.{AddedToSoFar}

abbrev pub invariant-loop-declaration : goal.invariant-loop-declaration
invariant-loop-declaration l =
    AddedToSoFar (λ items. supertypes_in (spaces_by_name l.fn.symbols l.fn.spaces) (map (decl_tree l.fn.symbols) items))
    [] l.declarations l.declaration-index (graph_of l.graph.items)
