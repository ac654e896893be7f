pub mod RunLemmas
pub mod ReplayLemmas
pub mod TurnLemmas
