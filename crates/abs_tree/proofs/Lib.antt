pub mod NumberLemmas
pub mod SyntaxLemmas
pub mod StatementLemmas
pub mod OffenceLemmas
pub mod StatementCountLemmas
pub mod TreeLemmas
pub mod FormLemmas
