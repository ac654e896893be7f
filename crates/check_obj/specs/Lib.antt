pub mod Bodies
pub mod Calls
pub mod Classes
pub mod Endings
pub mod MethodRows
pub mod MethodsMet
pub mod Visible
