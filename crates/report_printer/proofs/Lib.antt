pub mod ClassLemmas
pub mod FeedLemmas
pub mod LineLemmas
pub mod LoopLemmas
pub mod WritingLemmas
