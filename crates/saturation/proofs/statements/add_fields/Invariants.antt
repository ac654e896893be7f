use Rattle.saturation.specs.Passing.{HoldsInField}
use Rattle.saturation.proofs.EachLemmas.{FoundSoFar}
use Rattle.saturation.proofs.statements.add_fields.Given as goal

-- the atoms of the fields so far were found
abbrev pub invariant-loop-field : goal.invariant-loop-field
invariant-loop-field l = FoundSoFar (HoldsInField l.sign) l.initial.atoms.items l.fields l.field-index l.atoms.items
    l.initial.derivation l.derivation
