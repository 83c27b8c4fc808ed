pub mod Near
pub mod Places
pub mod Links
pub mod Chains
pub mod Raises
pub mod Rounds
pub mod Bridge
pub mod Props
