pub mod Lists
pub mod Finals
pub mod RowLaws
