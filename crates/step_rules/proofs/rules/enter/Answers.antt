use Rattle.std.proofs.Common.{option_map}
use Rattle.abs_tree.specs.Names.{name_of}
use Rattle.abs_tree.specs.SyntaxViews.{variable_tree}
use Rattle.step_rules.proofs.RulePlanLemmas.{enter_found}
use Rattle.step_rules.proofs.rules.enter.Goals as goal

pub returns-clause-plan : goal.returns-clause-plan
returns-clause-plan c = λ config at object_is.
    let names = c.args.program.now.symbols in
    let found = rw c.len.ensures at c.in-Some.ensures in
    let frame = rw (c.target_of.ensures names, ← object_is) at c.in_ok-frame.ensures names in
    rw c.of.ensures (enter_found names config at c.in_ok-frame.frame (name_of names c.args.method)
    (option_map (variable_tree names) c.args.target) c.args.next c.args.values c.in-Some.body _ found frame)
