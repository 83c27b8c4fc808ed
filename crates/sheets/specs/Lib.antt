pub mod Into
pub mod Loaded
