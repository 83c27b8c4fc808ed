pub mod Steps
pub mod Later
pub mod Drawn
pub mod Numbers
pub mod Blocks
pub mod Tails
