use Rattle.std.proofs.Common.{◌∙◌}
use Rattle.abs_program.proofs.SignatureLemmas.{found_row, missing_row}
use Rattle.abs_program.proofs.tables.signatures.Signatures.find.Goals as goal

pub returns-in-Some : goal.returns-in-Some
returns-in-Some c =
    let found = c.in-Some.ensures.lookup in
    c.as_slice.ensures.value
    ∙ found_row c.args.self.now _ c.args.name c.in-Some.row.now c.deref.ensures.value found.3.0 found.1

pub returns-in-None : goal.returns-in-None
returns-in-None c =
    missing_row c.args.self.now _ c.args.name c.deref.ensures.value (c.in-None.ensures.lookup).3
