pub mod Explains
pub mod Slips
