pub mod Boards
pub mod Logs
pub mod Slots
