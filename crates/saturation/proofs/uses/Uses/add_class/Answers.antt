use Rattle.abs_program.specs.NamedViews.{program_tree}
use Rattle.saturation.proofs.AddedLemmas.{added_none, ok_then}
use Rattle.saturation.proofs.BodyUseLemmas.{class_parts}
use Rattle.saturation.proofs.uses.Uses.add_class.Goals as goal

pub returns-in_ok-add_initials-in-Some : goal.returns-in_ok-add_initials-in-Some
returns-in_ok-add_initials-in-Some c =
    rw c.in-Some.is
    (ok_then c.add_methods.result
    (λ methods. class_parts (program_tree c.args.program.now) c.in_ok-class-in-Some.ensures c.as_slice.ensures.value
    c.as_slice-in-Some.ensures.value c.in_ok-add_initials-in-Some.ensures methods) c.add_methods.ensures)

pub returns-in-None : goal.returns-in-None
returns-in-None c = rw c.in-None.is (added_none (λ own place use_ none. none))
