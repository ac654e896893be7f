use Rattle.std.proofs.Common.{◌≡◌, false, take}
use Rattle.std.specs.List.{list_any}
use Rattle.abs_graph.specs.Graphs.{is_marked}
use Rattle.abs_graph.proofs.marked.leads_to_found.Given as goal

abbrev pub invariant-loop-next : goal.invariant-loop-next
invariant-loop-next l = list_any (is_marked l.found) (take l.next-index l.row) ≡ false
