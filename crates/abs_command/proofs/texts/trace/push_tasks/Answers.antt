use Rattle.std.proofs.Common.{◌∙◌, ◌++◌, ℕ, List, ap, codes, decimal, sym, take}
use Rattle.std.proofs.lemmas.List.{flat_map_more}
use Rattle.list_facts.proofs.EntryLemmas.{take-found}
use Rattle.abs_command.specs.Texts.{tasks_lines}
use Rattle.abs_command.proofs.texts.trace.push_tasks.Goals as goal

pub loop-index-preserved : goal.loop-index-preserved
loop-index-preserved c =
    let line : ℕ → List ℕ = λ task. decimal task ++ codes "\n" in
    let old = c.args.out.now.items in
    let tasks = c.args.history.now.tasks in
    let before = take c.loop-index.index tasks in
    c.in_ok-push_line.ensures
    ∙ (ap (λ it. it ++ line c.at.result) c.loop-index.invariant
    ∙ (flat_map_more line old before c.at.result
    ∙ ap (λ it. old ++ tasks_lines it) (sym (take-found tasks c.loop-index.index c.at.result c.at.ensures))))
