pub mod Guides
pub mod Leaves
pub mod Stages
pub mod Halves
pub mod Dives
pub mod Downs
pub mod Wholes
