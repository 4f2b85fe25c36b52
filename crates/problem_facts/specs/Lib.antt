pub mod Adding
pub mod Components
pub mod Conflicts
pub mod Prices
