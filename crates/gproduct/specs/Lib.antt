pub mod Places
pub mod Seats
pub mod Counting
pub mod Inside
