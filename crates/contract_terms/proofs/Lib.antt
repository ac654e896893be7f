pub mod ChainLemmas
mod ChoiceLemmas
pub mod DerivedLemmas
pub mod PairOrderLemmas
mod ReportLemmas
mod SettledLemmas
