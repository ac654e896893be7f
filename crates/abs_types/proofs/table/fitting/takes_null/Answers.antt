use Rattle.std.proofs.Common.{refl, ⊎_elim}
use Rattle.abs_types.proofs.PartLemmas.{null_unfit}
use Rattle.abs_types.specs.TypeShapes.{shape_type}
use Rattle.abs_types.proofs.table.fitting.takes_null.Goals as goal

pub returns-in-Interface : goal.returns-in-Interface
unfolding shape_type
returns-in-Interface c = λ names types differ.
    ⊎_elim (λ found. rw found.1 refl) (λ found. rw found.1 refl) c.in-Interface.is

pub returns-in_default : goal.returns-in_default
returns-in_default c = λ names types differ.
    null_unfit names types c.args.other c.in_default.not-Interface c.in_default.not-Fut differ
