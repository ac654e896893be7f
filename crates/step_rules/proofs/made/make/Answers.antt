use Rattle.std.proofs.Common.{◌≡◌, true, length, Some, option_map, sym, ap, ◌∙◌}
use Rattle.std.proofs.lemmas.List.{length-map}
use Rattle.abs_program.specs.InstructionViews.{class_entry_tree}
use Rattle.abs_tree.specs.Names.{name_of}
use Rattle.abs_program.specs.NamedViews.{program_tree}
use Rattle.abs_tree.specs.SyntaxViews.{variable_tree}
use Rattle.config_state.specs.ConfigViews.{configuration}
use Rattle.config_state.specs.Views.{object_state, task_state}
use Rattle.step_rules.proofs.MadeLemmas.{made, goes_planned}
use Rattle.step_rules.proofs.MoverLemmas.{cog_is, place_is, goes_to}
use Rattle.step_rules.proofs.made.make.Goals as goal
use Rattle.step_rules.specs.Lookups.{place_of, successor}

pub returns-clause-plan : goal.returns-clause-plan
returns-clause-plan c = λ runner point moves.
    let names = c.args.at.program.now.symbols in
    let program = program_tree c.args.at.program.now in
    let config = c.args.at.config.now in
    let numbered : c.len-object.result ≡ length config.objects = c.len-object.ensures.is in
    rw (c.of-plan.ensures, place_is c.args.at runner point moves)
    (goes_planned names (configuration names config) runner _ _ _ _ _ _ _
    ∙ ap Some (made program (configuration names config) runner (place_of point) (successor point.goes true)
    c.args.mode (name_of names c.args.class) (option_map (variable_tree names) c.args.target) c.args.values
    (class_entry_tree names c.in-Some.entry.now) c.target_of.result c.len-object.result c.successor.result
    c.home_of-cog.result c.cog_for-plan.result (option_map (task_state names) c.in_ok-task.task)
    (sym c.in-Some.ensures) (c.target_of.ensures names)
    (numbered ∙ sym (length-map config.objects (object_state names)))
    (c.successor.ensures ∙ goes_to c.args.at runner point true moves)
    (rw (cog_is c.args.at runner point moves) at (c.home_of-cog.ensures names))
    (rw (cog_is c.args.at runner point moves, place_is c.args.at runner point moves) at c.cog_for-plan.ensures)
    c.in_ok-task.ensures))
