pub mod Empty
pub mod Joins
pub mod Classes
pub mod Walks
pub mod Draws
pub mod Largest
pub mod Parts
pub mod Pairs
