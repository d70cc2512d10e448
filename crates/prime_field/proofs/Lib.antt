pub mod Euclid
pub mod Inverses
pub mod Table
pub mod Powers
