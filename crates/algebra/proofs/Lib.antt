mod Places
pub mod Counting
mod Pairs
mod Sums
mod Replacing
mod Testing
mod OverlapSums
pub mod Letterwise
mod Commuting
pub mod Fitting
pub mod SortedAnew
pub mod OrderFaults
pub mod SortedRelations
mod ProductLaws
pub mod MetFaults
