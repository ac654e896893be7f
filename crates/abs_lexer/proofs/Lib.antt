mod SpanLemmas
mod WordLemmas
mod TextLemmas
mod EndLemmas
mod ClassLemmas
pub mod ScanLemmas
mod QuotedLemmas
mod CommentLemmas
mod SignLemmas
mod FoundLemmas
mod OffenceLemmas
mod StepLemmas
pub mod LawLemmas
mod LeadLemmas
mod TakenLemmas
