pub mod Asks
pub mod Sets
pub mod Sweeps
