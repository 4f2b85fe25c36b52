pub mod Outside
pub mod Files
pub mod Texts
pub mod Settled
pub mod Answers
pub mod Causes
pub mod Reading
pub mod Endings
