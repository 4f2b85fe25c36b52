pub mod Spanning
pub mod Holding
mod Knowing
mod Seeing
mod Settling
mod Finding
