pub mod CommandLemmas
pub mod GetterLemmas
pub mod RowLemmas
