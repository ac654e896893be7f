pub mod ContextLemmas
pub mod FoundLemmas
pub mod FrameLemmas
mod FunctionLemmas
mod GrowingLemmas
mod HeadLemmas
mod JoinedSoFarLemmas
mod LeafLemmas
mod ListLemmas
mod MethodLemmas
pub mod OperandLemmas
mod OperatedSoFarLemmas
mod OperatorLemmas
mod OwnCallLemmas
mod PartLemmas
mod PatternLemmas
mod ExprLemmas
pub mod RuleLemmas
pub mod SchemeLemmas
mod SlotLemmas
mod SoFarLemmas
pub mod StepLemmas
