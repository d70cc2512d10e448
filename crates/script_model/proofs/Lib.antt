pub mod OneAnswer
pub mod OrderTests
pub mod Rows
pub mod Statuses
pub mod Trees
