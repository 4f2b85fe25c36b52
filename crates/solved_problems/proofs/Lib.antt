pub mod Marks
mod Lines
mod Asking
mod Ends
mod Seated
