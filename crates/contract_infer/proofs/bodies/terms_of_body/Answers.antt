use Rattle.std.proofs.Common.{◌≡◌, Some, ap, arith, sym, ◌∙◌, map}
use Rattle.std.specs.Prelude.{slice_get}
use Rattle.std.specs.declared.alloc.Global.{Global}
use Rattle.std.specs.declared.vec.Vec.{Vec}
use Rattle.std.proofs.lemmas.List.{length-map}
use Rattle.std.proofs.lemmas.Option.{slice_get-get_or}
use Rattle.contract_infer.proofs.BodyTermLemmas.{gathered_more, terms_all}
use Rattle.contract_infer.specs.BodyViews.{names_of, source_of}
use Rattle.contract_terms.specs.Views.{term_tree}
use Rattle.contract_infer.proofs.bodies.terms_of_body.Goals as goal

-- the row of this turn
row_is : (c : goal.In_ok-add_term)
    → slice_get c.args.rows.now c.loop-offset.offset ≡ Some c.index-rows-offset.result
row_is c =
    slice_get-get_or c.args.rows.now c.loop-offset.offset c.index-rows-offset.result c.loop-offset-test.true
    ∙ ap Some (sym c.index-rows-offset.is)

pub loop-offset-preserved : goal.loop-offset-preserved
loop-offset-preserved c =
    let row = row_is c in
    gathered_more c.args.checker.now c.loop-offset.checker c.add_term.new.checker c.args.view.now c.args.first
    c.args.rows.now c.loop-offset.offset c.in_ok-index.index c.index-rows-offset.result c.loop-offset.terms.items
    c.add_term.new.terms.items row (sym c.in_ok-index.ensures) c.loop-offset.invariant c.in_ok-add_term.ensures.stays
    (λ body point fact knows view there row. c.in_ok-add_term.ensures.added body point fact knows view there
    (c.as_slice.ensures.value ∙ row))

pub returns-clause-found : goal.returns-clause-found
returns-clause-found c body knows view is_body index are =
    let rows = length-map c.args.rows.now (λ (row : Vec _ Global). row.items) in
    terms_all (source_of c.args.checker.now) body c.loop-offset.offset
    (map (term_tree (names_of c.args.checker.now)) c.loop-offset.terms.items)
    (omega (arith, rows, are.count, c.loop-offset-test.false, c.loop-offset.auto.offset-end))
    (c.loop-offset.invariant.so_far body knows view is_body index are)
