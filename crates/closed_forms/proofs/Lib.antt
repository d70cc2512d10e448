pub mod Sums
pub mod Pascal
pub mod Shifts
pub mod Passing
pub mod Powers
pub mod Normal
pub mod Tables
pub mod Residues
pub mod Lucas
pub mod Digits
pub mod Numbers
pub mod Shape
pub mod PairKinds
mod WeylNumbers
