pub mod Peel
pub mod Levels
