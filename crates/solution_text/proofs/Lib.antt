mod Joined
pub mod Answered
pub mod Kept
pub mod OneAnswer
pub mod ReadBack
pub mod Written
