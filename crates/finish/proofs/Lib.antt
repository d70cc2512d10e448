pub mod Finishing
pub mod Tails
