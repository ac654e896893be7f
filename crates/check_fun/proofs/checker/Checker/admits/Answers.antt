use Rattle.std.proofs.Common.{subst, IfSome}
use Rattle.abs_types.specs.TypeShapes.{IsAmong}
use Rattle.abs_types.specs.TypeTables.{types_in}
use Rattle.check_fun.proofs.PatternLemmas.{unfit_found, unfit_missing}
use Rattle.check_fun.proofs.checker.Checker.admits.Goals as goal

pub fits-requires-clause-one : goal.fits-requires-clause-one
fits-requires-clause-one c =
    subst (λ found. IfSome found (IsAmong (types_in c.args.self.now.table))) c.in-Some.is c.requires.subject.among

pub fits-requires-clause-other : goal.fits-requires-clause-other
fits-requires-clause-other c = c.requires.asked.among

pub returns-in-Some : goal.returns-in-Some
returns-in-Some c context given wanted knows one other =
    unfit_found c.in-Some.subject c.fits.result c.in-Some.is knows one other c.fits.ensures

pub returns-in-None : goal.returns-in-None
returns-in-None c context given wanted knows one other =
    unfit_missing context.declarations wanted c.in-None.is one
