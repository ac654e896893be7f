use Rattle.std.proofs.Common.{◌≡◌, true, length, Some, option_map, sym, ap, ◌∙◌}
use Rattle.std.proofs.lemmas.List.{length-map}
use Rattle.abs_tree.specs.Names.{name_of}
use Rattle.abs_program.specs.NamedViews.{program_tree}
use Rattle.abs_tree.specs.SyntaxViews.{variable_tree}
use Rattle.abs_program.specs.ProgramBodies.{entry_of_body}
use Rattle.config_state.specs.ConfigViews.{configuration}
use Rattle.config_state.specs.Views.{object_state, task_state}
use Rattle.step_rules.proofs.MadeLemmas.{called, goes_planned}
use Rattle.step_rules.proofs.MoverLemmas.{place_is, goes_to}
use Rattle.step_rules.proofs.made.send_to.Goals as goal
use Rattle.step_rules.specs.Lookups.{callable, place_of, successor}

pub returns-clause-plan : goal.returns-clause-plan
returns-clause-plan c = λ runner point moves.
    let names = c.args.at.program.now.symbols in
    let program = program_tree c.args.at.program.now in
    let config = c.args.at.config.now in
    let cell = c.in-Some.cell.now in
    let method = name_of names c.args.method in
    let there = c.in-Some.ensures names in
    let found : Some c.in-Some-callable.body ≡ option_map entry_of_body
    (callable program (name_of names cell.class) method c.len.result) = c.in-Some-callable.ensures in
    let numbered : c.len-2.result ≡ length config.tasks = c.len-2.ensures.is in
    rw c.of-plan.ensures (goes_planned names (configuration names config) runner _ _ _ _ _ _ _
    ∙ ap Some (called program (configuration names config) runner (place_of point) (successor point.goes true)
    c.args.object (object_state names cell) method (option_map (variable_tree names) c.args.target) c.args.arguments
    c.in-Some-callable.body c.target_of.result c.len-2.result c.successor.result
    (task_state names c.in_ok-task.task) (sym there)
    (rw c.len.ensures at found) (c.target_of.ensures names)
    (numbered ∙ sym (length-map config.tasks (task_state names)))
    (c.successor.ensures ∙ goes_to c.args.at runner point true moves)
    (rw (place_is c.args.at runner point moves) at (c.in_ok-task.ensures names))))
