pub mod Kinds
pub mod Binomials
pub mod Forms
pub mod Inside
