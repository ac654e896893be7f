use denote.Param.Send.{sendable}
use Rattle.abs_program.proofs.ShareLemmas.{exprs_send, exprs_sync}
use Rattle.abs_program.proofs.sharing.expressions_are_shared.Goals as goal

pub is_shared-requires-send-T : goal.is_shared-requires-send-T
is_shared-requires-send-T c κs = search (sendable, exprs_send)

pub is_shared-requires-sync-T : goal.is_shared-requires-sync-T
is_shared-requires-sync-T c κs = search (sendable, exprs_sync)
