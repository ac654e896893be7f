use Rattle.future_cells.proofs.OrderLemmas.{goes_on_if}
use Rattle.future_cells.proofs.order.goes_on.Goals as goal

pub returns-in-Running : goal.returns-in-Running
returns-in-Running c program names tasks_are =
    goes_on_if program names c.args.config.now c.args.ready.now c.args.task c.at.result.now c.contains.result
    c.at.ensures c.in-Running.is tasks_are c.contains.ensures
