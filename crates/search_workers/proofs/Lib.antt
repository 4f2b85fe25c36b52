pub mod Moving
pub mod Growths
pub mod GoingOn
pub mod Handing
pub mod Rooted
pub mod Keeping
