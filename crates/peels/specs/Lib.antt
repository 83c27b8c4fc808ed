pub mod Peels
pub mod Theorems
