pub mod Answered
pub mod Chained
pub mod Listed
pub mod Ordering
pub mod Owned
pub mod Placed
