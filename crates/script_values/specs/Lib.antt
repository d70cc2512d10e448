pub mod Gives
pub mod Values
pub mod Kept
pub mod KeptEnvironment
pub mod Prepended
