pub mod Inside
pub mod Words
pub mod Levels
pub mod Grammar
pub mod Layers
pub mod Leaves
pub mod Outcome
