-- Consequences of the grammar: the tokens that a nonterminal may begin with, and what it opens to, given the next
-- token. Also the tokens that fit a token kind, and the names that a source declares.
pub mod KindLemmas
pub mod DigitLemmas
pub mod NameLemmas
pub mod ReadingLemmas
pub mod AskedLemmas
pub mod FirstTokens
pub mod BeginningLemmas
pub mod TypeLemmas
pub mod PatternLemmas
pub mod PrimaryLemmas
pub mod NonterminalLemmas
pub mod OperatorLemmas
pub mod FirstPlaceLemmas
pub mod InsideLemmas
pub mod DeclaredNameLemmas
