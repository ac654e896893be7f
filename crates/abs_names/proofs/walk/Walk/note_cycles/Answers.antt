use Rattle.std.proofs.Common.{◌∙◌, refl, ap, fold}
use Rattle.abs_tree.specs.Offences.{earlier}
use Rattle.abs_names.specs.Single.{cyclic}
use Rattle.abs_names.proofs.ExtensionLemmas.{cycles_step, cycles_done}
use Rattle.abs_names.proofs.walk.Walk.note_cycles.Goals as goal

pub loop-index-preserved : goal.loop-index-preserved
loop-index-preserved c =
    cycles_step c.index-declarations-index.result c.name_place-place.result c.loop-index.invariant
    c.loop-index-test.true c.index-declarations-index.is c.name_place-place.ensures
    (c.note_if.ensures
    ∙ ap (λ b. fold earlier c.loop-index.self.first (cyclic b c.name_place-place.result))
    c.is_marked-extends_itself.ensures) refl

pub returns-clause-noted : goal.returns-clause-noted
returns-clause-noted c = λ names. cycles_done names c.loop-index.invariant c.loop-index-test.false
