pub mod Prelude
pub mod Codes
pub mod PartViews
