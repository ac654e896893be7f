pub mod Recorded
pub mod Replays
pub mod Turns
