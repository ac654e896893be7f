use Rattle.std.proofs.Common.{sym, ◌∙◌}
use Rattle.check_obj.proofs.MethodRowLemmas.{row_added, row_same}
use Rattle.check_obj.proofs.method_types.add_signature.Goals as goal

pub returns-then-contains_key-clause-row : goal.returns-then-contains_key-clause-row
returns-then-contains_key-clause-row c done named row =
    row_same c.args.signature.now c.number-name.result c.number-name.ensures.number
    (sym c.contains_key.ensures ∙ c.if-contains_key.true) named row

pub returns-clause-row : goal.returns-clause-row
returns-clause-row c done named row =
    row_added c.args.row.now.types c.insert.new.self.entries c.args.signature.now c.number-name.result
    c.in_ok-type_of.type_of c.number-name.ensures.number (sym c.contains_key.ensures ∙ c.if-contains_key.false) named
    row c.in_ok-type_of.ensures.stays c.in_ok-type_of.ensures.found c.in_ok-insert.ensures.entries
