pub mod Callers
pub mod Board
pub mod Fresh
pub mod Calls
pub mod Standing
pub mod Onward
