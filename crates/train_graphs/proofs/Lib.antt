pub mod Marks
pub mod Reached
pub mod FirstLoops
pub mod Acyclic
pub mod Decided
