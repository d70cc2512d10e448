pub mod Names
pub mod Readings
pub mod Spelling
pub mod Pieces
pub mod Writable
