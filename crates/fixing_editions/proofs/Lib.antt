pub mod Accepting
mod Keeping
mod Owning
mod Standing
