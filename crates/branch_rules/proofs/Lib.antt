mod Ending
mod Placing
mod Looking
mod Picking
pub mod Shown
mod Overlapping
