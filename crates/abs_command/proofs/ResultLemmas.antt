-- What follows for results and errors.
use Rattle.abs_tree.specs.declared.refusal.Refusal.{Refusal}
use Rattle.abs_tree.specs.declared.source_error.SourceError.{SourceError}
use Rattle.abs_tree.specs.declared.source_error.SourceError.TheVariants.{Refused, Memory}
use Rattle.abs_tree.specs.SourceErrors.{HasCause}

-- What follows from the cause of a refusal is a cause of it too.
pub cause_follows : (error : SourceError) {P Q : Refusal → Type 0} → HasCause P error
    → ((refusal : Refusal) → P refusal → Q refusal) → HasCause Q error
cause_follows (Refused refusal) h follows = follows refusal h
cause_follows Memory h follows = tt
