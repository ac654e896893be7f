pub mod TermLemmas
pub mod SpineLemmas
mod FormLemmas
mod NameLemmas
mod FittingLemmas
mod CopyLemmas
pub mod JoinLemmas
mod JoinFormLemmas
pub mod SubtypingLemmas
pub mod ReplacementLemmas
pub mod ApplicationLemmas
mod ArgumentLemmas
mod NamedLemmas
mod OffenceLemmas
mod PatternLemmas
mod OperatorLemmas
mod RuleLemmas
mod AgreementLemmas
mod NoOffenceLemmas
pub mod WiderLemmas
pub mod SchemeLemmas
pub mod ConstructorLemmas
mod AskedLemmas
mod CallLemmas
mod SideLemmas
mod StatementLemmas
pub mod ProgramLemmas
pub mod KeepLemmas
mod TypeTableLemmas
mod OwnNameLemmas
mod ShapeLemmas
mod GrowthLemmas
mod TableLemmas
mod AddLemmas
pub mod TypeSetLemmas
pub mod MemoryLemmas
mod TermTableLemmas
mod PartLemmas
mod TableJoinLemmas
mod ShareLemmas
mod OpenLemmas
pub mod HeadLemmas
mod MeetLemmas
mod MetSoFarLemmas
mod AllMetLemmas
mod ReplacedSoFarLemmas
