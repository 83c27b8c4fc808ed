pub mod Rows
pub mod Colours
pub mod Tries
pub mod Theorems
