pub mod Chain
pub mod FaultCount
pub mod Faults
