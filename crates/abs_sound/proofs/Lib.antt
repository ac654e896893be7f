mod OrderLemmas
mod KnowledgeLemmas
mod AfterLemmas
mod TaskLemmas
mod RuleLemmas
pub mod LawLemmas
pub mod StuckLemmas
