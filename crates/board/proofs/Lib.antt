pub mod Logs
pub mod Boards
pub mod Keeping
mod Finding
mod Offers
