pub mod Swaps
pub mod Factors
pub mod Parts
pub mod Passing
pub mod Kept
