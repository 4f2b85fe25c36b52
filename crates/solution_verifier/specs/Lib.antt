pub mod Rules
pub mod Judged
pub mod Held
pub mod First
pub mod Answered
pub mod Unmet
pub mod Stated
pub mod FaultText
