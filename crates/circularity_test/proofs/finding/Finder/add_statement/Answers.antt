use Rattle.std.proofs.Common.{◌∙◌, ap, refl, sym}
use Rattle.abs_program.specs.InstructionViews.{effect_tree, instruction_tree}
use Rattle.abs_program.specs.Instructions.{Awaits}
use Rattle.circularity_test.proofs.AddingLemmas.{on_ok}
use Rattle.circularity_test.proofs.FindingLemmas.{awaits_waits, gets_waits}
use Rattle.circularity_test.specs.Finding.{names_in}
use Rattle.circularity_test.proofs.finding.Finder.add_statement.Goals as goal

pub returns-in-Get : goal.returns-in-Get
returns-in-Get c =
    on_ok c.add_slot.result
    (gets_waits c.args.self.now.facts.now c.args.kind.now
    (instruction_tree (names_in c.args.self.now) c.args.instruction.now) c.args.settled.now _ refl refl refl
    c.in-Get.slot _
    (ap (effect_tree (names_in c.args.self.now)) c.in-Get.is)) c.add_slot.ensures

pub returns-in-Await : goal.returns-in-Await
returns-in-Await c =
    on_ok c.add_slots.result
    (awaits_waits c.args.self.now.facts.now c.args.kind.now
    (instruction_tree (names_in c.args.self.now) c.args.instruction.now) c.args.settled.now _ refl refl refl
    c.as_slice.result.now
    (ap (effect_tree (names_in c.args.self.now)) c.in-Await.is ∙ ap Awaits (sym c.as_slice.ensures.value)))
    c.add_slots.ensures
