mod HeadlineLemmas
mod InputLemmas
mod AskedLemmas
mod AnswerLemmas
mod SourceLemmas
mod AcceptedLemmas
mod FindingsLemmas
mod PromiseLemmas
mod AgreementLemmas
mod ResultLemmas
pub mod RunLemmas
mod StatusLemmas
mod TakingLemmas
mod TaskLemmas
