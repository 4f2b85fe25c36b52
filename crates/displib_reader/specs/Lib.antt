pub mod ProblemOf
pub mod Claims
pub mod Counts
pub mod Types
pub mod Outcome
pub mod Why
pub mod Names
