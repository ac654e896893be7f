use Rattle.std.specs.Prelude.{None}
use Rattle.abs_names.proofs.DeclarationLemmas.{kept_resolution}
use Rattle.abs_names.proofs.InPlaceLemmas.{ChangedSoFar}
use Rattle.abs_names.proofs.walk.Walk.keep_all.Given as goal

abbrev pub invariant-loop-one : goal.invariant-loop-one
invariant-loop-one l =
    ChangedSoFar kept_resolution l.fn.self.scope.names 0 None l.fn.declared.items l.one-index l.one-items
    l.self.scope.names 0 None
