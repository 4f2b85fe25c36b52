pub mod Spans
pub mod Holders
pub mod Holds
pub mod Known
