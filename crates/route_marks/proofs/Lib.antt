pub mod Chaining
pub mod Keeping
pub mod Passing
pub mod Relaxing
