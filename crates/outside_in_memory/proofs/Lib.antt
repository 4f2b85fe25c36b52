pub mod LineSplits
