pub mod Outside
pub mod Puts
