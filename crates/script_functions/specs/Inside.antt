pub mod Faults
pub mod Bases
