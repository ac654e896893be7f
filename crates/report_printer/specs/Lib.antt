pub mod Output
pub mod RefusalTexts
pub mod ReportTexts
pub mod SourceLines
pub mod SourceSearch
