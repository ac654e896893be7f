use mathlib.Core.Logic.{∥∥₁_map, ∥∥₁_map₂}
use Rattle.std.proofs.Common.{◌++◌, sym, ap, ◌∙◌, subst}
use Rattle.std.proofs.lemmas.Option.{same_Some}
use Rattle.std.proofs.lemmas.Result.{IfOk-weaker, on_ok_weaker, on_err_weaker}
use Rattle.abs_values.specs.Results.{results_tree}
use Rattle.abs_program.specs.NamedViews.{program_tree}
use Rattle.config_state.specs.ConfigViews.{configuration}
use Rattle.config_state.specs.OfProgram.{IsConfigOf}
use Rattle.config_state.specs.declared.config.Config.{Config}
use Rattle.step_rules.proofs.EventMemoryLemmas.{memory_by_plan, memory_by_output}
use Rattle.step_rules.proofs.EventPlanLemmas.{plan_parts, change_there, same_change, planned_change, after_event, lines_of_event, formed_after, known_after}
use Rattle.step_rules.specs.Changes.{Change}
use Rattle.step_rules.proofs.events.apply.Goals as goal
use Rattle.list_facts.proofs.ResultLemmas.{OnOk-or_OnErr}

pub unreachable-requires : goal.unreachable-requires
unreachable-requires c =
    let program = program_tree c.args.program.now in
    let config = configuration c.args.program.now.symbols c.args.config.now in
    let same = same_change program config c.args.task c.requires.has_step (results_tree c.args.values)
    c.requires.is_output in
    let there = change_there program config c.args.task c.requires.has_step in
    let none = rw c.in-None.is at c.in_ok-plan.ensures.plan in
    absurd (cc (none, same, there.1))

pub returns-in_err-plan-clause-memory : goal.returns-in_err-plan-clause-memory
returns-in_err-plan-clause-memory c =
    let program = program_tree c.args.program.now in
    let config = configuration c.args.program.now.symbols c.args.config.now in
    memory_by_output program config c.args.task _ c.from_residual.result
    (same_change program config c.args.task c.requires.has_step (results_tree c.args.values) c.requires.is_output)
    c.in_err-plan.ensures.memory

pub install-requires : goal.install-requires
install-requires c =
    let names = c.args.program.now.symbols in
    let program = program_tree c.args.program.now in
    let config = configuration names c.args.config.now in
    let event = planned_change program config c.args.task c.requires.has_step (results_tree c.args.values)
    c.requires.is_output names c.in-Some.plan (rw c.in-Some.is at c.in_ok-plan.ensures.plan) in
    record {
      formed = (
        names,
        event.0,
        event.2,
        ∥∥₁_map c.args.config.now.well_formed
            (λ formed. formed_after program config c.args.task event.0 event.1 (formed names)),
      );
    }

pub returns-clause-config : goal.returns-clause-config
returns-clause-config c =
    let names = c.args.program.now.symbols in
    let program = program_tree c.args.program.now in
    let config = configuration names c.args.config.now in
    let event = planned_change program config c.args.task c.requires.has_step (results_tree c.args.values)
    c.requires.is_output names c.in-Some.plan (rw c.in-Some.is at c.in_ok-plan.ensures.plan) in
    on_ok_weaker c.install.result (λ placed step found.
    placed names event.0 event.2 ∙ after_event program config c.args.task event.0 event.1 step found)
    c.install.ensures.config

pub returns-clause-lines : goal.returns-clause-lines
returns-clause-lines c =
    let names = c.args.program.now.symbols in
    let program = program_tree c.args.program.now in
    let config = configuration names c.args.config.now in
    let event = planned_change program config c.args.task c.requires.has_step (results_tree c.args.values)
    c.requires.is_output names c.in-Some.plan (rw c.in-Some.is at c.in_ok-plan.ensures.plan) in
    let parts = plan_parts names config c.args.task c.in-Some.plan event.0 event.2 in
    on_ok_weaker c.install.result (λ printed step found. printed ∙ ap (λ lines. c.args.lines.now ++ lines)
    (parts.2.turned.lines_are ∙ lines_of_event program config c.args.task event.0 event.1 step found))
    c.install.ensures.lines

pub returns-clause-kind : goal.returns-clause-kind
returns-clause-kind c =
    let names = c.args.program.now.symbols in
    let program = program_tree c.args.program.now in
    let config = configuration names c.args.config.now in
    let event = planned_change program config c.args.task c.requires.has_step (results_tree c.args.values)
    c.requires.is_output names c.in-Some.plan (rw c.in-Some.is at c.in_ok-plan.ensures.plan) in
    let parts = plan_parts names config c.args.task c.in-Some.plan event.0 event.2 in
    IfOk-weaker c.install.result _ _ (λ did is change found. is
    ∙ (parts.2.turned.kind_is ∙ ap (λ (one : Change). one.did) (same_Some _ _ (sym event.1 ∙ found))))
    c.install.ensures.kind

pub returns-clause-of_program : goal.returns-clause-of_program
returns-clause-of_program c =
    let names = c.args.program.now.symbols in
    let program = program_tree c.args.program.now in
    let config = configuration names c.args.config.now in
    let event = planned_change program config c.args.task c.requires.has_step (results_tree c.args.values)
    c.requires.is_output names c.in-Some.plan (rw c.in-Some.is at c.in_ok-plan.ensures.plan) in
    OnOk-or_OnErr c.install.result c.install.ensures.config c.install.ensures.err_config
    (λ placed. ∥∥₁_map₂ c.args.program.now.is_whole c.requires.of_program (λ whole known.
    subst (IsConfigOf program) (sym (placed names event.0 event.2))
    (known_after program config c.args.task event.0 event.1 whole known)))
    (λ same. subst (λ (one : Config). ∥ IsConfigOf program (configuration names one) ∥₁) (sym same)
    c.requires.of_program)

pub returns-clause-memory : goal.returns-clause-memory
returns-clause-memory c =
    let names = c.args.program.now.symbols in
    let program = program_tree c.args.program.now in
    let config = configuration names c.args.config.now in
    let event = planned_change program config c.args.task c.requires.has_step (results_tree c.args.values)
    c.requires.is_output names c.in-Some.plan (rw c.in-Some.is at c.in_ok-plan.ensures.plan) in
    on_err_weaker c.install.result
    (memory_by_plan names program config c.args.task c.in-Some.plan event.0 event.1 event.2) c.install.ensures.memory
