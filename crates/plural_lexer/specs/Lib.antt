pub mod Letters
pub mod Places
pub mod Pieces
pub mod Tokens
