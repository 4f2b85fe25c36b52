pub mod Json
pub mod Field
pub mod Claims
pub mod Gives
pub mod Refusals
