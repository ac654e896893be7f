use Rattle.std.proofs.Common.{sym, subst}
use Rattle.abs_program.specs.NamedViews.{program_tree}
use Rattle.config_state.proofs.FirstLemmas.{first-well_formed, first-of_program, configuration-is_first}
use Rattle.config_state.specs.OfProgram.{IsConfigOf}
use Rattle.config_state.specs.WellFormed.{IsWellFormed}
use Rattle.config_state.proofs.initial.first.Goals as goal

pub invariant_of-result-4 : goal.invariant_of-result-4
invariant_of-result-4 c =
    let program = program_tree c.args.program.now in
    record {
      well_formed = ∣ (λ names. subst IsWellFormed
          (sym (configuration-is_first program names c.main_body-main.result c.main_body-main.ensures
          c.in_ok-nulls.ensures c.in_ok-vec.ensures.items c.in_ok-vec-3.ensures.items c.in_ok-vec-2.ensures.items
          c.new.ensures.items)) (first-well_formed program)) ∣₁;
    }

pub returns-clause-is_first : goal.returns-clause-is_first
returns-clause-is_first c =
    configuration-is_first (program_tree c.args.program.now) c.args.program.now.symbols c.main_body-main.result
    c.main_body-main.ensures c.in_ok-nulls.ensures c.in_ok-vec.ensures.items c.in_ok-vec-3.ensures.items
    c.in_ok-vec-2.ensures.items c.new.ensures.items

pub returns-clause-of_program : goal.returns-clause-of_program
returns-clause-of_program c =
    let program = program_tree c.args.program.now in
    ∣ (subst (IsConfigOf program)
    (sym (configuration-is_first program c.args.program.now.symbols c.main_body-main.result
    c.main_body-main.ensures c.in_ok-nulls.ensures c.in_ok-vec.ensures.items c.in_ok-vec-3.ensures.items
    c.in_ok-vec-2.ensures.items c.new.ensures.items)) (first-of_program program)) ∣₁
