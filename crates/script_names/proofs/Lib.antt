pub mod Rows
pub mod Spellings
pub mod TokenTexts
pub mod Walk
