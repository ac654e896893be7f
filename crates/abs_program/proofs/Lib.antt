mod LinkLemmas
pub mod KeptSpaceLemmas
pub mod EdgeLemmas
mod HolderLemmas
pub mod DeclaredLemmas
mod FieldLemmas
mod SignatureLemmas
mod MethodLemmas
pub mod PointLemmas
mod LeftLemmas
pub mod FlowLemmas
pub mod ProgramPointLemmas
pub mod ProgramFactLemmas
pub mod InstructionLemmas
mod CountLemmas
mod MakerLemmas
mod BodyRowLemmas
mod ClassEntryLemmas
pub mod KnownNameLemmas
pub mod KeptMeaningLemmas
pub mod PreludeTypeLemmas
pub mod ShareLemmas
pub mod EqualNameLemmas
pub mod EqualTypeLemmas
pub mod EqualPatternLemmas
pub mod EqualExprLemmas
pub mod EqualStatementLemmas
pub mod EqualDeclarationLemmas
