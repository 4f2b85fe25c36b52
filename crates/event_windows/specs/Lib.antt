pub mod Operations
pub mod Windows
