pub mod Faults
pub mod Reordered
pub mod Limited
pub mod Inside
