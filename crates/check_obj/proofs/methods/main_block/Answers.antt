use Rattle.std.proofs.Common.{◌∙◌}
use Rattle.check_fun.proofs.ContextLemmas.{found_stays}
use Rattle.check_obj.proofs.BodyLemmas.{in_main, knows_in_main}
use Rattle.check_obj.proofs.methods.main_block.Goals as goal

pub enter_body-requires-clause-task : goal.enter_body-requires-clause-task
enter_body-requires-clause-task c = found_stays c.in_ok-slots.ensures.stays c.in_ok-unit.ensures.found.found_is

pub returns : goal.returns
returns c = record {
  noted = λ context knows.
      let body = c.args.body.now in
      let entered = knows_in_main c.in_ok-slots.slots.items body c.requires (c.len.ensures ∙ body.slots.ok.0)
      c.new-fields.ensures.items c.in_ok-unit.ensures.stays c.in_ok-slots.ensures.stays c.in_ok-unit.ensures.found
      c.in_ok-slots.ensures.found c.enter_body.ensures.knows context knows in
      let noted = c.statements.ensures.noted (in_main context body) entered in
      let first = c.enter_body.ensures.first ∙ (c.in_ok-slots.ensures.first ∙ c.in_ok-unit.ensures.first) in
      rw (first, c.as_slice.ensures.value) at noted;
}
