mod Marks
pub mod Keeping
mod Handing
mod Grounding
