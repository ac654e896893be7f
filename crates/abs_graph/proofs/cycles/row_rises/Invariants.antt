use Rattle.std.proofs.Common.{take}
use Rattle.std.specs.List.{All}
use Rattle.abs_graph.specs.Certificates.{place_of, IsRise}
use Rattle.abs_graph.proofs.cycles.row_rises.Given as goal

abbrev pub invariant-loop-next : goal.invariant-loop-next
invariant-loop-next l = All (λ next. IsRise l.place (place_of l.places next)) (take l.next-index l.row)
