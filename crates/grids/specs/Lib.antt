pub mod Grid
pub mod Classes
pub mod Largest
pub mod Draws
