pub mod Queues
pub mod Inside
pub mod Kept
