pub mod Answering
mod Asking
mod Following
mod Knowing
mod Parting
mod Sweeping
mod Walking
