use Rattle.abs_program.specs.NamedViews.{program_tree}
use Rattle.saturation.proofs.AddedLemmas.{added_by}
use Rattle.saturation.proofs.IsUseLemmas.{are_uses}
use Rattle.saturation.proofs.uses.uses_of.Goals as goal
use Rattle.saturation.specs.UsesAdded.{BodyUses, ClassesUse}
use Rattle.saturation.specs.declared.body.Body.TheVariants as body

pub returns : goal.returns
returns c =
    let program = program_tree c.args.program.now in
    are_uses program c.args.terms.now c.new.ensures.empty
    (added_by (BodyUses program body.Main) (c.main.ensures program.names) c.in_ok-add_terms.ensures)
    (added_by (ClassesUse program) c.as_slice.ensures.value c.in_ok-add_classes.ensures)
