-- The tree of a source has no more variables, and each class no more fields, than there are tokens. Statements are
-- numbered in the order in which they begin.
pub mod LeafLemmas
pub mod ExprSizes
pub mod StatementSizes
pub mod BodySizes
pub mod DeclarationSizes
pub mod NumberLemmas
