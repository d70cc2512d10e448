pub mod Ideals
pub mod Inside
