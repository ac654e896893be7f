use Rattle.std.proofs.Common.{◌∙◌, ℕ, List, sym, ap}
use Rattle.abs_program.specs.declared.meanings.Entry.{Entry}
use Rattle.abs_program.specs.Numbered.{looked_up}
use Rattle.abs_program.proofs.LinkLemmas.{still_linked, added}
use Rattle.abs_program.proofs.meanings.Meanings.push.Goals as goal

pub invariant_of-self : goal.invariant_of-self
invariant_of-self o c =
    still_linked c.self.inside.newest.items c.make_room.new.newest.items c.self.inside.entries.items
    c.make_room.ensures.same c.self.invariant

pub invariant_of-self-in_err-push : goal.invariant_of-self-in_err-push
invariant_of-self-in_err-push o c =
    rw c.in_err-push.ensures.items
    (still_linked c.self.inside.newest.items c.make_room.new.newest.items c.self.inside.entries.items
    c.make_room.ensures.same c.self.invariant)

pub invariant_of-self-2 : goal.invariant_of-self-2
invariant_of-self-2 o c =
    let entries = c.self.inside.entries.items in
    let entry : Entry _ = record {
      number = c.args.number;
      meaning = c.args.meaning;
      before = c.look_up-before.result;
    } in
    rw c.in_ok-push.ensures.items
    (added c.make_room.new.newest.items entries entry
    (still_linked c.self.inside.newest.items c.make_room.new.newest.items entries c.make_room.ensures.same
    c.self.invariant)
    c.in_ok-make_room.ensures.room
    (c.look_up-before.ensures
    ∙ ap (λ (known : List (ℕ × _)). looked_up known c.args.number) (sym c.self.view_is)))
