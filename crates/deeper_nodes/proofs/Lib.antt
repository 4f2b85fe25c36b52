pub mod Tighter
pub mod Staying
pub mod Dying
pub mod Rising
