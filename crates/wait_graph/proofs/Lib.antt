pub mod RoundLemmas
mod FoundLemmas
pub mod WaitLemmas
pub mod StalledLemmas
pub mod LawLemmas
