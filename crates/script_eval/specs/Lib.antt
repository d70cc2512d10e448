pub mod Going
pub mod Leads
pub mod Seats
pub mod Sessions
