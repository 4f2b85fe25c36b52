pub mod Code
pub mod Knowledge
pub mod Cell
