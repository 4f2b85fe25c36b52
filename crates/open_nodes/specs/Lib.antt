pub mod States
pub mod Preorder
pub mod Grafts
pub mod Shown
pub mod Filled
pub mod Blocks
