pub mod Rows
pub mod Swaps
pub mod Steps
pub mod Words
