pub mod Ended
pub mod Opened
pub mod Printed
pub mod Rolled
pub mod Status
