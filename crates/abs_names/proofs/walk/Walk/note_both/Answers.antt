use Rattle.std.proofs.Common.{◌∙◌, refl, ap, take}
use Rattle.std.proofs.lemmas.Result.{on_ok_weaker}
use Rattle.abs_program.specs.NameSpaces.{NameSpaces, built_in}
use Rattle.abs_names.specs.Repeats.{declarations_repeats}
use Rattle.abs_names.specs.Visible.{Visible}
use Rattle.abs_names.proofs.BothLemmas.{both_parts_noted, repeats_of_both}
use Rattle.abs_names.proofs.walk.Walk.note_both.Goals as goal

pub returns-clause-noted : goal.returns-clause-noted
returns-clause-noted c =
    let later = c.read.ensures.before
    ∙ (ap (λ (v : Visible). take c.args.readable v.names.after) c.in_ok-note_declarations.ensures.scope
    ∙ ap (take c.args.readable) c.read_all.ensures.after) in
    on_ok_weaker c.note_declarations-2.result
    (both_parts_noted (λ (spaces : NameSpaces). declarations_repeats) (λ spaces. repeats_of_both) {spaces = built_in}
    c.args.self.now.first _ _ c.args.prelude.now c.args.source.now refl refl c.read_all.ensures.before later
    c.in_ok-note_declarations.ensures.noted)
    c.note_declarations-2.ensures.noted
