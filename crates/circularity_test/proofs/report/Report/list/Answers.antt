use Rattle.std.proofs.Common.{◌∙◌, ap, subst, sym}
use Rattle.abs_graph.specs.Graphs.{is_marked}
use Rattle.circularity_test.proofs.MarkingLemmas.{chain_next, none_next}
use Rattle.circularity_test.proofs.report.Report.list.Goals as goal
use Rattle.circularity_test.specs.Reporting.{ComesNext, mark_all}
use Rattle.circularity_test.specs.Routes.{Picks}

pub returns-in_ok-add : goal.returns-in_ok-add
returns-in_ok-add c program network rises so =
    chain_next program c.args.pairs.now rises c.args.index c.args.marked.now.items c.mark.new.marked.items
    c.args.self.now c.add.new.self c.in_ok-indices.field-0 c.in-Some.indices c.in_ok-picked.field-0.items c.in-Some.is
    c.requires
    (λ pair there. subst (λ marked. ComesNext program c.args.pairs.now pair (is_marked marked c.args.index)
    c.in_ok-indices.field-0) c.as_slice.ensures.value (c.in_ok-indices.ensures program pair network rises there))
    (λ chain picks. c.in_ok-picked.ensures chain
    (subst (λ indices. Picks c.args.pairs.now indices chain) (sym c.as_slice-in-Some.ensures.value) picks))
    c.in_ok-add.ensures
    (c.mark.ensures ∙ ap (mark_all c.args.marked.now.items) c.as_slice-in-Some-2.ensures.value) so

pub returns-in_default : goal.returns-in_default
returns-in_default c program network rises so =
    none_next program c.args.pairs.now c.args.index c.args.marked.now.items c.args.self.now c.in_ok-indices.field-0
    c.in_default.is c.requires
    (λ pair there. subst (λ marked. ComesNext program c.args.pairs.now pair (is_marked marked c.args.index)
    c.in_ok-indices.field-0) c.as_slice.ensures.value (c.in_ok-indices.ensures program pair network rises there)) so
