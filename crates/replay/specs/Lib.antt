pub mod Worlds
pub mod Fit
pub mod Shown
