use Rattle.abs_types.specs.Mistyped.{does_not_fit}
use Rattle.check_fun.proofs.PatternLemmas.{none_if}
use Rattle.check_fun.proofs.checker.Checker.literal.Goals as goal

pub returns-clause-fits : goal.returns-clause-fits
returns-clause-fits c context given wanted knows one other =
    none_if (does_not_fit context.declarations given wanted) c.admits-fits.result c.args.place
    (c.admits-fits.ensures context given wanted knows one other)

pub returns-clause-noted : goal.returns-clause-noted
returns-clause-noted c context given wanted knows one other =
    rw (c.admits-fits.ensures context given wanted knows one other) c.note_if.ensures.noted
