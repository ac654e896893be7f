use Rattle.std.proofs.Common.{◌∙◌, ◌<◌, length, subst, sym}
use Rattle.abs_program.specs.NamedViews.{program_tree}
use Rattle.future_cells.proofs.CodeStandingLemmas.{cell_ended, cell_waits, cell_goes, same_Waits, waited_there}
use Rattle.future_cells.proofs.events.standing_of.Goals as goal

pub returns-then-is_some-clause-standing : goal.returns-then-is_some-clause-standing
returns-then-is_some-clause-standing c state found =
    cell_ended (program_tree c.args.program.now) c.args.program.now.symbols c.args.config.now c.args.task
    c.at.result.now c.at.ensures state found (sym c.is_some.ensures ∙ c.if-is_some.true)

pub returns-in-Some-clause-standing : goal.returns-in-Some-clause-standing
returns-in-Some-clause-standing c state found =
    cell_waits (program_tree c.args.program.now) c.args.program.now.symbols c.args.config.now c.args.task
    c.at.result.now c.at.ensures state found c.in-Some.future (sym c.is_some.ensures ∙ c.if-is_some.false)
    (c.in-Some.ensures.some state found)

pub returns-in-Some-clause-future_there : goal.returns-in-Some-clause-future_there
returns-in-Some-clause-future_there c future is =
    subst (λ future. future < length c.args.config.now.tasks) (same_Waits c.in-Some.future future is)
    (waited_there (program_tree c.args.program.now) c.args.program.now.symbols c.args.config.now c.args.task
    c.at.result.now c.in-Some.future c.at.ensures c.in-Some.ensures.some)

pub returns-in-None-clause-standing : goal.returns-in-None-clause-standing
returns-in-None-clause-standing c state found =
    cell_goes (program_tree c.args.program.now) c.args.program.now.symbols c.args.config.now c.args.task
    c.at.result.now c.at.ensures state found (sym c.is_some.ensures ∙ c.if-is_some.false)
    (c.in-None.ensures.none state found)
