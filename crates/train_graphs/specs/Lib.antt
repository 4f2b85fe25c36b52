pub mod Graphs
pub mod Ranks
pub mod Reach
pub mod Costs
