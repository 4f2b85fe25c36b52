pub mod Answered
pub mod Components
pub mod Distinct
pub mod Once
pub mod OneAnswer
pub mod Parts
pub mod Trains
pub mod Whole
