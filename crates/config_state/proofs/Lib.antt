pub mod EachLemmas
mod SpanLemmas
pub mod BodyLemmas
pub mod FirstLemmas
pub mod StatementLemmas
