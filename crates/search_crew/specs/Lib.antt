pub mod Crews
pub mod Working
pub mod Grounds
pub mod Turns
