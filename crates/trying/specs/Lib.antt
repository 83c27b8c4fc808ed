pub mod Trying
pub mod Shown
