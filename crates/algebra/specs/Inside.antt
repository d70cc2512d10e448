pub mod Presentations
pub mod Tests
pub mod Places
pub mod WordSums
pub mod Falling
