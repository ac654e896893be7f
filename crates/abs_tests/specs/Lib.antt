pub mod AcceptedExamples
pub mod ControlExamples
pub mod Examples
pub mod ValueExamples
