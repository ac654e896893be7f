use Rattle.saturation.proofs.HandlingLemmas.{passes_as}
use Rattle.saturation.proofs.rules.Rules.pass_to.Goals as goal

pub returns-in-Expr : goal.returns-in-Expr
returns-in-Expr c = passes_as _ _ _ _ _ _ _ _ _ c.in-Expr.is c.arrive.ensures

pub returns-in-Future : goal.returns-in-Future
returns-in-Future c = passes_as _ _ _ _ _ _ _ _ _ c.in-Future.is c.resolve.ensures

pub returns-in-Target : goal.returns-in-Target
returns-in-Target c = passes_as _ _ _ _ _ _ _ _ _ c.in-Target.is c.answer.ensures
