pub mod Trains
pub mod Plans
pub mod Histories
pub mod Trees
