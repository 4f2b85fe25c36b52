pub mod Own
pub mod Edition
pub mod Answers
pub mod Settled
