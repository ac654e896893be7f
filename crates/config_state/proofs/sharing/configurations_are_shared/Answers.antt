use denote.Param.Send.{IsSend, IsSync, sendable}
use Rattle.std.proofs.Crossing.{crosses}
use Rattle.abs_values.proofs.value.Parts.TheLaws.TheKnot.{crosses as values_cross}
use Rattle.config_state.specs.contracts.cog.Cogs
use Rattle.config_state.specs.contracts.object.Objects
use Rattle.config_state.specs.contracts.task.Tasks
use Rattle.config_state.proofs.sharing.configurations_are_shared.Goals as goal

pub is_shared-requires-send-T : goal.is_shared-requires-send-T
is_shared-requires-send-T c κs =
    let cogs : IsSend Cogs.the_row = search (crosses, values_cross, sendable) depth 60 fits 20000 in
    let objects : IsSend Objects.the_row = search (crosses, values_cross, sendable) depth 60 fits 20000 in
    let tasks : IsSend Tasks.the_row = search (crosses, values_cross, sendable) depth 60 fits 20000 in
    search sendable depth 60 fits 20000

pub is_shared-requires-sync-T : goal.is_shared-requires-sync-T
is_shared-requires-sync-T c κs =
    let cogs : IsSync Cogs.the_row = search (crosses, values_cross, sendable) depth 60 fits 20000 in
    let objects : IsSync Objects.the_row = search (crosses, values_cross, sendable) depth 60 fits 20000 in
    let tasks : IsSync Tasks.the_row = search (crosses, values_cross, sendable) depth 60 fits 20000 in
    search sendable depth 60 fits 20000
