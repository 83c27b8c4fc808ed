pub mod Cap
pub mod Theorems
