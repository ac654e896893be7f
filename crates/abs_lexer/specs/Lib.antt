pub mod Words
pub mod Forms
pub mod Tokens
pub mod Offences
pub mod Laws
pub mod Answers
pub mod Views
pub mod Scans
