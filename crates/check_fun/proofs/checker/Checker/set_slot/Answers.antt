use Rattle.std.proofs.Common.{refl, arith}
use Rattle.std.proofs.Math.Logic.{∥∥₁_map}
use Rattle.std.proofs.lemmas.List.Elements.{All-set}
use Rattle.abs_types.specs.TypeTables.{types_in}
use Rattle.check_fun.proofs.GrowingLemmas.{MaybeAmong}
use Rattle.check_fun.proofs.SlotLemmas.{finds_same, knows_past, knows_set}
use Rattle.check_fun.proofs.checker.Checker.set_slot.Goals as goal

pub returns-then-slot-len-clause-knows : goal.returns-then-slot-len-clause-knows
returns-then-slot-len-clause-knows c context type knows finds =
    knows_past c.args.slot type (omega (arith, c.if-slot-len.true, c.len.ensures)) context knows

pub returns-then-slot-len-clause-was : goal.returns-then-slot-len-clause-was
returns-then-slot-len-clause-was c context knows = c.variable_type-was.ensures context knows

pub invariant_of-self-clause-slots_are : goal.invariant_of-self-clause-slots_are
invariant_of-self-clause-slots_are c =
    let self = c.args.self.now in
    ∥∥₁_map self.slots_are
    (All-set (MaybeAmong (types_in self.table)) self.slots.items c.args.slot c.args.found c.requires.among)

pub returns-clause-knows : goal.returns-clause-knows
returns-clause-knows c = knows_set c.args.slot c.args.found refl refl refl refl refl refl

pub returns-clause-was : goal.returns-clause-was
returns-clause-was c context knows = finds_same refl (c.variable_type-was.ensures context knows)
