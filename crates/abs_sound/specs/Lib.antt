pub mod Knowledge
pub mod Waits
