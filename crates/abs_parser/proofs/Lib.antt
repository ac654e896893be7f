pub mod grammar
pub mod stop
mod sizes
mod reader
