mod Draws
mod Lines
mod Rows
