mod Ordered
pub mod Members
pub mod Placing
pub mod Least
mod Monomials
mod Witnesses
mod Places
mod Heaps
mod Bits
mod InOrder
mod Changes
mod Fronts
