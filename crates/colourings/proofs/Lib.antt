pub mod Coloured
pub mod Used
