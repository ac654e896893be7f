use Rattle.std.proofs.Common.{sym, subst}
use Rattle.abs_program.specs.InstructionViews.{instruction_tree}
use Rattle.circularity_test.proofs.AddingLemmas.{on_ok}
use Rattle.circularity_test.proofs.FindingLemmas.{term_waits}
use Rattle.circularity_test.specs.Adding.{Adds}
use Rattle.circularity_test.specs.Finding.{StatementWaits, names_in, program_in, term_in}
use Rattle.circularity_test.proofs.finding.Finder.add_term.Goals as goal

pub returns-in-Some : goal.returns-in-Some
returns-in-Some c =
    on_ok c.add_statement.result
    (λ added. term_waits (program_in c.args.self.now) c.args.self.now.facts.now c.args.kind.now
    (term_in c.args.self.now c.args.term.now)
    (instruction_tree (names_in c.args.self.now) c.in-Some.instruction.now) (sym c.in-Some.ensures)
    (subst (λ settled. Adds (StatementWaits c.args.self.now.facts.now c.args.kind.now
    (instruction_tree (names_in c.args.self.now) c.in-Some.instruction.now) settled) c.args.found.now.items
    c.add_statement.new.found.items) c.as_slice.ensures.value added)) c.add_statement.ensures
