pub mod Known
pub mod View
pub mod Section
pub mod Order
pub mod Steps
pub mod Turn
