use Rattle.abs_program.specs.InstructionViews.{instruction_tree}
use Rattle.abs_program.specs.NamedViews.{program_tree}
use Rattle.contract_terms.specs.Views.{term_tree}
use Rattle.saturation.proofs.AddedLemmas.{ok_then}
use Rattle.saturation.proofs.BodyUseLemmas.{term_found, term_missing}
use Rattle.saturation.proofs.uses.Uses.add_term.Goals as goal

pub returns-in-Some : goal.returns-in-Some
returns-in-Some c =
    let names = c.args.program.now.symbols in
    ok_then c.add_effect.result
    (λ added. term_found (program_tree c.args.program.now) c.args.body c.args.index (term_tree names c.args.term.now)
    (instruction_tree names c.in-Some.instruction.now) c.in-Some.ensures added) c.add_effect.ensures

pub returns-in-None : goal.returns-in-None
returns-in-None c =
    term_missing (program_tree c.args.program.now) c.args.body c.args.index
    (term_tree c.args.program.now.symbols c.args.term.now) c.in-None.ensures
