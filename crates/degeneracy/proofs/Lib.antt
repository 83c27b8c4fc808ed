pub mod Orders
pub mod Removal
pub mod Ranks
pub mod Cores
pub mod Plans
