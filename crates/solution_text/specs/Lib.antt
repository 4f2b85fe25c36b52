pub mod Texts
pub mod Claims
pub mod PlanOf
pub mod Reading
pub mod Why
pub mod Limits
