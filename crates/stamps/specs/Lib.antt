pub mod Stamped
pub mod Near
