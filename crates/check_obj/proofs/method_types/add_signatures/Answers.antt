use Rattle.check_obj.proofs.GrownRowLemmas.{grown_none, signatures_grown, signatures_next}
use Rattle.check_obj.proofs.method_types.add_signatures.Goals as goal

pub loop-signature-init : goal.loop-signature-init
loop-signature-init c = grown_none

pub loop-signature-preserved : goal.loop-signature-preserved
loop-signature-preserved c =
    signatures_next c.args.signatures.now c.loop-signature.signature-index c.signature-item.result
    c.loop-signature.invariant c.loop-signature-test.true c.signature-item.is c.add_signature.ensures.first
    c.in_ok-add_signature.ensures.stays c.in_ok-add_signature.ensures.row

pub returns-clause-row : goal.returns-clause-row
returns-clause-row c =
    signatures_grown c.args.signatures.now c.loop-signature.signature-index c.loop-signature.invariant
    c.loop-signature-test.false
