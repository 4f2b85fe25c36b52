pub mod Growing
pub mod Downs
pub mod Ending
pub mod Returning
