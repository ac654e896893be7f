use Rattle.std.proofs.Common.{◌≡◌, false, nat_eq, take}
use Rattle.std.specs.List.{list_any}
use Rattle.abs_graph.specs.Certificates.{place_of}
use Rattle.abs_graph.proofs.cycles.has_root.Given as goal

abbrev pub invariant-loop-next : goal.invariant-loop-next
invariant-loop-next l =
    list_any (λ next. nat_eq (place_of l.places next).root l.root) (take l.next-index l.row) ≡ false
