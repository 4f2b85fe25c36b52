pub mod Times
pub mod Prices
pub mod Leasts
pub mod Bases
pub mod Shown
pub mod Free
pub mod Known
