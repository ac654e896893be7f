use Rattle.abs_program.proofs.SignatureLemmas.{row_grows}
use Rattle.abs_program.proofs.tables.signatures.add_signature.Goals as goal

pub returns : goal.returns
returns c =
    row_grows c.args.rows.now.items c.args.number c.args.at c.index_mut.result.now c.add_first.new.row c.requires
    c.index_mut.ensures.value c.in_ok-add_first.ensures
