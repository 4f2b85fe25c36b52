pub mod Openness
