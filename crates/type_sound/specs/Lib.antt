pub mod Values
pub mod Scopes
pub mod Routines
pub mod Visible
pub mod WellTyped
pub mod Fitting
pub mod Holding
