mod Block
mod Drawn
mod Fitting
