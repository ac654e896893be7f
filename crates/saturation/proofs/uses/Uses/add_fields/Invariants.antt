use Rattle.saturation.proofs.AddedLemmas.{EachBefore}
use Rattle.saturation.proofs.uses.Uses.add_fields.Given as goal
use Rattle.saturation.specs.UsesAdded.{Added, FieldRead}

-- the fields so far were added
abbrev pub invariant-loop-field : goal.invariant-loop-field
invariant-loop-field l =
    Added (EachBefore (FieldRead l.body l.term l.expr) l.fields l.field-index) l.initial.self l.self
