pub mod Waits
pub mod FirstWaits
