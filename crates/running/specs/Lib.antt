pub mod Nothing
pub mod Spares
pub mod Played
