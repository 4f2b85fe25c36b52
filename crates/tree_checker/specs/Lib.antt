pub mod Rules
pub mod Checks
pub mod Places
pub mod Bounds
pub mod TrainCosts
pub mod Descents
pub mod Seen
pub mod KnownNodes
