pub mod Spares
pub mod Matches
