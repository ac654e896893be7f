-- The nodes of the group of a kind are in the row of that group.
use Rattle.std.proofs.Common.{◌≡◌, ◌∙◌, None, Some, length, refl, sym, slice_get, subst, Contains}
use Rattle.std.proofs.lemmas.Option.{slice_get_past, slice_get_read}
use Rattle.circularity_test.proofs.GroupLemmas.{alike_in_none, alike_in_row, row_at, row_past}
use Rattle.circularity_test.proofs.network.Groups.alike.Goals as goal

pub returns-in_default : goal.returns-in_default
returns-in_default c nodes grouped number node there alike =
    absurd (alike_in_none nodes c.args.self.now c.args.target.now.kind.now c.args.target.now.component
    grouped c.number.result
    (λ row. (c.number.ensures row).1) number node there alike c.in_default.is)

pub returns-in-Some-get : goal.returns-in-Some-get
returns-in-Some-get c nodes grouped number node there alike =
    let inside = alike_in_row nodes c.args.self.now c.args.target.now.kind.now c.args.target.now.component
    grouped c.number.result
    (λ row. (c.number.ensures row).1) number node there alike c.in-Some.number c.in-Some.is in
    let rows = c.deref.result.now in
    let row = c.in-Some-get.row.now in
    let look = c.in-Some-get.ensures.lookup in
    let at = slice_get_read rows (length rows) c.in-Some.number row refl look.3.0 look.1 in
    subst (λ list. Contains list number)
    (row_at c.args.self.now.rows.items c.in-Some.number row
    (subst (λ items. slice_get items c.in-Some.number ≡ Some row) c.deref.ensures.value at)
    ∙ sym c.as_slice.ensures.value) inside

pub returns-in-None : goal.returns-in-None
returns-in-None c nodes grouped number node there alike =
    let inside = alike_in_row nodes c.args.self.now c.args.target.now.kind.now c.args.target.now.component
    grouped c.number.result
    (λ row. (c.number.ensures row).1) number node there alike c.in-Some.number c.in-Some.is in
    let past = slice_get_past c.deref.result.now c.in-Some.number c.in-None.ensures.lookup.3 in
    subst (λ list. Contains list number)
    (row_past c.args.self.now.rows.items c.in-Some.number
    (subst (λ items. slice_get items c.in-Some.number ≡ None) c.deref.ensures.value past)) inside
