pub mod Order
pub mod Greedy
pub mod Theorems
