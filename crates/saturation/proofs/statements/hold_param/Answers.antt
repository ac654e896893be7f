use Rattle.std.proofs.Common.{◌≡◌, refl}
use Rattle.contract_terms.specs.declared.fact.Fact.TheVariants.{Holds}
use Rattle.saturation.proofs.PassLemmas.{adds_after, adds_same}
use Rattle.saturation.proofs.statements.hold_param.Goals as goal

pub returns-in-Some : goal.returns-in-Some
returns-in-Some c =
    let is : Holds c.copied.result c.in-Some.slot c.copied-in-Some.result
    ≡ Holds c.args.callee.now c.args.param c.args.atom.now =
    rw (c.copied.ensures, c.copied-in-Some.ensures, c.in-Some.ensures.number) refl in
    adds_after c.number.ensures.adds (adds_same is c.add.ensures)
