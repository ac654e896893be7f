use denote.Param.Send.{sendable}
use Rattle.abs_types.proofs.ShareLemmas.{named_send, named_sync, checked_send, checked_sync}
use Rattle.abs_types.proofs.sharing.programs_are_shared.Goals as goal

-- src/sharing.rt:10:5
pub is_shared-requires-send-T : goal.is_shared-requires-send-T
is_shared-requires-send-T c κs = search (sendable, named_send)

-- src/sharing.rt:10:5
pub is_shared-requires-sync-T : goal.is_shared-requires-sync-T
is_shared-requires-sync-T c κs = search (sendable, named_sync)

-- src/sharing.rt:11:5
pub is_shared-requires-2-send-T : goal.is_shared-requires-2-send-T
is_shared-requires-2-send-T c κs = search (sendable, checked_send)

-- src/sharing.rt:11:5
pub is_shared-requires-2-sync-T : goal.is_shared-requires-2-sync-T
is_shared-requires-2-sync-T c κs = search (sendable, checked_sync)
