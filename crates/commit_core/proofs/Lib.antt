pub mod Turning
pub mod Bringing
mod Seeding
pub mod Growing
pub mod Leading
pub mod Running
pub mod Continuing
pub mod GoodSpecs
mod CountRows
