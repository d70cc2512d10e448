pub mod Worlds
pub mod Showing
mod Rows
