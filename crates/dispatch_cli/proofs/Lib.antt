pub mod Opening
pub mod Rolling
