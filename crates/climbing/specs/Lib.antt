pub mod Climbs
pub mod Theorems
