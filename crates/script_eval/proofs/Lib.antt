pub mod Arguments
pub mod OptionNames
pub mod Turns
mod Answered
