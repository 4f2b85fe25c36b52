pub mod Reading
pub mod Packed
pub mod Kept
pub mod Outlines
