mod AnswerLemmas
pub mod SameValueLemmas
mod ComparisonLemmas
pub mod ResultLemmas
pub mod ListOutcomeLemmas
mod InsideLemmas
mod MatchingLemmas
mod OperationLemmas
pub mod ReferenceLemmas
mod EarlierLemmas
