use Rattle.std.proofs.Common.{sym}
use Rattle.saturation.specs.RuleViews.{program_of}
use Rattle.saturation.proofs.KindBodyLemmas.{kind_found, main_found}
use Rattle.saturation.proofs.rules.Rules.bodies_of.Goals as goal

pub returns-in-Main : goal.returns-in-Main
returns-in-Main c =
    kind_found (program_of c.args.self.now) _ _ (sym c.in-Main.is)
    (main_found (program_of c.args.self.now) _ c.no_bodies-bodies.ensures c.push_body.ensures)

pub returns-in-Method : goal.returns-in-Method
returns-in-Method c =
    kind_found (program_of c.args.self.now) _ _ (sym c.in-Method.is) c.method_bodies.ensures
