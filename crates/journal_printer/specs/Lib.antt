pub mod Causes
pub mod Journal
pub mod Printing
