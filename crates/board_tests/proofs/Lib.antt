pub mod Callers
pub mod Places
