use Rattle.std.proofs.Common.{ℕ, List, ◌++◌, codes, get_or, sym, subst}
use Rattle.std.proofs.lemmas.List.{get_or_default}
use Rattle.report_printer.proofs.LoopLemmas.{no_item, none_left, one_more}
use Rattle.report_printer.proofs.WritingLemmas.{nothing, then}
use Rattle.report_printer.specs.Output.{Writes}
use Rattle.report_printer.specs.ReportTexts.{cog_text, place_text}
use Rattle.report_printer.proofs.printer.Printer.cog.Goals as goal

pub returns-in_default : goal.returns-in_default
unfolding cog_text
returns-in_default c =
    subst (λ places. Writes c.args.out.now (cog_text c.args.self.now.lines.now.source.now places) c.args.out.now)
    (sym (no_item c.args.places.now c.in_default.ensures.cases)) (nothing c.args.out.now)

pub loop-place-init : goal.loop-place-init
loop-place-init c after rest = rest

pub loop-place-preserved : goal.loop-place-preserved
loop-place-preserved c after rest =
    let text : ℕ → List ℕ = λ place. codes " " ++ place_text c.args.self.now.lines.now.source.now place in
    let others = c.in-Some.others.now in
    let index = c.loop-place.place-index in
    let item = get_or others index 0 in
    c.loop-place.invariant after
    (one_more text others index item c.loop-place-test.true (get_or_default others index 0 item c.loop-place-test.true)
    (then c.push.ensures c.place-in-loop-place.ensures) rest)

pub returns : goal.returns
unfolding cog_text
returns c =
    let bytes = c.args.self.now.lines.now.source.now in
    let text : ℕ → List ℕ = λ place. codes " " ++ place_text bytes place in
    subst (λ places. Writes c.args.out.now (cog_text bytes places) c.loop-place.out)
    (sym c.in-Some.ensures.cases.0)
    (then c.place.ensures (c.loop-place.invariant c.loop-place.out
    (none_left text c.in-Some.others.now c.loop-place.place-index c.loop-place-test.false c.loop-place.out)))
