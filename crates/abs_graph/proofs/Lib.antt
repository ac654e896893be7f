mod BitSetLemmas
pub mod CertificateLemmas
mod ColumnLemmas
mod ComponentLemmas
pub mod ListedLemmas
pub mod ReachLemmas
mod ReachingLemmas
mod RootEdgeLemmas
mod RootReachLemmas
mod TableLemmas
