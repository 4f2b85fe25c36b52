pub mod Values
pub mod Steps
pub mod Numbers
pub mod Verdicts
pub mod Kept
pub mod Unreadable
pub mod OneAnswer
pub mod Readable
