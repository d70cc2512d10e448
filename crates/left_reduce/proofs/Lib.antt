pub mod Divisors
pub mod Passing
pub mod Factors
pub mod Made
pub mod Working
pub mod Falling
pub mod Starts
pub mod Agreeing
