use Rattle.std.proofs.Common.{ℕ, List, subst}
use Rattle.std.specs.List.{All}
use Rattle.std.proofs.lemmas.List.{take_all}
use Rattle.std.proofs.lemmas.List.Elements.{All-more}
use Rattle.abs_graph.specs.Certificates.{place_of, IsRise}
use Rattle.abs_graph.specs.declared.certificate.Place.{Place}
use Rattle.abs_graph.proofs.cycles.row_rises.Goals as goal

pub loop-next-preserved : goal.loop-next-preserved
loop-next-preserved c =
    All-more (λ next. IsRise c.args.place (place_of c.args.places.now next)) c.args.row.now c.loop-next.next-index 0
    c.loop-next-test.true c.loop-next.invariant
    (subst (λ (p : Place). IsRise c.args.place p) c.place_at.ensures c.if-not-is_rise.ensures)

pub returns : goal.returns
returns c =
    let P = λ (next : ℕ). IsRise c.args.place (place_of c.args.places.now next) in
    subst (λ (row : List ℕ). All P row) (take_all c.loop-next.next-index c.args.row.now c.loop-next-test.false)
    c.loop-next.invariant
