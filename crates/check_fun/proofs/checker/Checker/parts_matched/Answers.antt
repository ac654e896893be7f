use Rattle.abs_tree.specs.Names.{name_of}
use Rattle.abs_types.specs.PatternTypes.{constructor_parts}
use Rattle.abs_types.specs.PlainTypes.{PlainType}
use Rattle.check_fun.proofs.PartLemmas.{parts_matched}
use Rattle.check_fun.proofs.checker.Checker.parts_matched.Goals as goal

pub returns-in-Some-2-clause-found : goal.returns-in-Some-2-clause-found
returns-in-Some-2-clause-found c context type knows found =
    parts_matched c.args.count (λ (given : PlainType).
    constructor_parts context.declarations given (name_of context.names c.args.constructor))
    (rw c.in-Some.is at found)
    (λ one one_found. rw c.in-Some-2.is at (c.in_ok-parts-in-Some.ensures.found context one knows one_found))
    c.as_many.ensures
