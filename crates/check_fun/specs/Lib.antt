pub mod Contexts
pub mod ObjectHeads
pub mod OwnMethods
pub mod Parts
