use Rattle.std.proofs.Common.{refl}
use Rattle.std.specs.Prelude.{IfSome}
use Rattle.std.proofs.lemmas.List.Elements.{All-nil, All-weaker}
use Rattle.std.proofs.lemmas.Grind.{merely}
use Rattle.abs_types.specs.TypeShapes.{IsAmong}
use Rattle.abs_types.specs.TypeTables.{types_in}
use Rattle.check_fun.proofs.FrameLemmas.{knows_in_body}
use Rattle.check_fun.specs.Contexts.{Found}
use Rattle.check_fun.proofs.checker.Checker.enter_body.Goals as goal

pub invariant_of-self : goal.invariant_of-self
invariant_of-self c =
    let self = c.args.self.now in
    record {
      slots_are = merely (All-weaker (Found self) (λ slot. IfSome slot (IsAmong (types_in self.table)))
          (λ slot found. found.among) c.args.slots.items c.requires.slots);
      fields_are = merely c.requires.fields.among;
      task_is = merely c.requires.task.among;
      bound_are = rw c.clear.ensures.items (merely (All-nil _));
    }

pub returns-clause-knows : goal.returns-clause-knows
returns-clause-knows c = knows_in_body refl refl refl refl refl c.clear.ensures.items
