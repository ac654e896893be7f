use Rattle.std.proofs.Common.{is_some, rules, tests}
use Rattle.std.proofs.lemmas.Iterator.{YieldsList-from_slice}
use Rattle.std.proofs.lemmas.Iterator.Search.{all_from_yields_List}
use Rattle.abs_command.proofs.TaskLemmas.{done_by}
use Rattle.abs_command.proofs.run.is_done.Goals as goal

pub returns : goal.returns
returns c names = done_by names c.args.config.now c.all.result
    (all_from_yields_List (λ task. is_some task.outcome) _ _ c.all.result c.all.ensures.ran
    (YieldsList-from_slice c.args.config.now.tasks cc) (λ x b q k. search (rules, tests)))
