use Rattle.step_rules.proofs.InstallLemmas.{well_formed-after}
use Rattle.step_rules.proofs.install.install.Goals as goal

pub invariant_of-config : goal.invariant_of-config
invariant_of-config c =
    let was = c.args.config.now in
    let put = c.put_in_place in
    record {
      well_formed = well_formed-after put.result c.args.task c.args.plan was.cogs put.new.cogs was.objects
          put.new.objects was.tasks put.new.tasks c.requires.formed put.ensures.config put.ensures.err_cogs
          put.ensures.err_objects put.ensures.err_tasks was.well_formed;
    }
