pub mod Named
pub mod Leads
pub mod Kept
pub mod Specs
pub mod Begun
