-- The stop law: each token list is read or refused, and a prefix that is not refused can be completed to a program. So
-- the parser accepts a list with one reading, or fails at one token.
pub mod MoveLemmas
pub mod CompletionLemmas
pub mod FinishLemmas
pub mod DecisionLemmas
pub mod StopLemmas
pub mod OutcomeLemmas
pub mod EndLemmas
