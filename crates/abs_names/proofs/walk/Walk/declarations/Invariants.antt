use Rattle.std.proofs.Common.{◌≡◌, []}
use Rattle.abs_program.specs.SlotViews.{DeclHasSlots}
use Rattle.abs_names.proofs.DeclarationLemmas.{in_declarations, declaration_resolution}
use Rattle.abs_names.proofs.InPlaceLemmas.{ChangedSoFar}
use Rattle.abs_names.proofs.walk.Walk.declarations.Given as goal
use Rattle.list_facts.proofs.InPlaceLemmas.{HaveSoFar}

abbrev pub invariant-loop-declaration : goal.invariant-loop-declaration
invariant-loop-declaration l =
    ChangedSoFar declaration_resolution (in_declarations l.fn.self.scope) 0 l.fn.self.first l.fn.declarations.items
    l.declaration-index l.declaration-items (in_declarations l.self.scope) 0 l.self.first
    × HaveSoFar (DeclHasSlots l.fn.self.scope.names.after) l.declaration-index l.declaration-items
    × (l.self.scope.scope.fields ≡ [])
