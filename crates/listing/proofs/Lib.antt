pub mod Starts
pub mod Rows
pub mod Laid
pub mod All
pub mod Steps
pub mod Fronts
