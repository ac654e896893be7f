pub mod Profile
pub mod Accepted
