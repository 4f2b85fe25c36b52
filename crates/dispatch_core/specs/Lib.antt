pub mod States
pub mod Replies
pub mod Asked
pub mod Kept
pub mod Pending
pub mod Remaining
pub mod Falling
pub mod Judging
