use Rattle.std.proofs.Common.{[], map}
use Rattle.abs_program.specs.KeptSpaces.{spaces_by_name}
use Rattle.abs_program.specs.Supertypes.{interfaces_named}
use Rattle.abs_tree.specs.SyntaxViews.{declared}
use Rattle.abs_program.proofs.tables.supertypes.interfaces_named.Given as goal
use Rattle.list_facts.proofs.AddedLemmas.{AddedToSoFar}

abbrev pub invariant-loop-name : goal.invariant-loop-name
invariant-loop-name l =
    AddedToSoFar (λ items. interfaces_named (spaces_by_name l.fn.symbols l.fn.spaces)
    (map (declared l.fn.symbols) items)) [] l.names l.name-index l.found.items
