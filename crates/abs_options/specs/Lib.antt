pub mod CommandLine
pub mod Generated
