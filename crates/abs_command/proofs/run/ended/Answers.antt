use Rattle.config_state.specs.ConfigViews.{configuration}
use Rattle.abs_command.proofs.RunLemmas.{ends_done, ends_open}
use Rattle.abs_command.proofs.run.ended.Goals as goal
use Rattle.abs_command.proofs.run.ended.Goals.{then-is_done, else-is_done}

pub returns-clause-end : goal.returns-clause-end
returns-clause-end c names program limit few ends =
    let config = configuration names c.args.config in
    let known = c.is_done.ensures names in
    elim c.if-is_done.branch [
      | then-is_done w ↦ ends_done program limit c.args.history.tasks config c.if-is_done.end c.args.otherwise
          c.is_done.result known w.if-is_done.true w.end-is few
      | else-is_done w ↦ ends_open program limit c.args.history.tasks config c.if-is_done.end c.args.otherwise
          c.is_done.result known w.if-is_done.false w.end-is ends
    ]
