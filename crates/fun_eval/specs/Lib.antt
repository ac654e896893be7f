pub mod Evaluating
pub mod Matching
pub mod Reading
