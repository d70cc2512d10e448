mod SortedWords
mod Stacks
mod Swaps
mod MultipliedOut
mod Stages
mod Sums
mod Passing
mod Parted
pub mod TwoPowers
pub mod LetterValue
pub mod ClosedTerms
pub mod Known
mod KeptFactors
