pub mod Pulls
pub mod Settles
pub mod Lines
