use denote.Param.Send.{sendable}
use Rattle.std.proofs.Crossing.{crosses}
use Rattle.abs_program.proofs.ShareLemmas.{expression_send, expression_sync, exprs_send, exprs_sync}
use Rattle.abs_values.proofs.value.Parts.TheLaws.TheKnot.{crosses as values_cross}
use Rattle.step_rules.proofs.sharing.inputs_are_shared.Goals as goal

pub is_shared-requires-send-T : goal.is_shared-requires-send-T
is_shared-requires-send-T c κs =
    search (sendable, crosses, values_cross, exprs_send, expression_send, expression_sync) depth 60 fits 20000

pub is_shared-requires-sync-T : goal.is_shared-requires-sync-T
is_shared-requires-sync-T c κs =
    search (sendable, crosses, values_cross, exprs_sync, expression_send, expression_sync) depth 60 fits 20000
