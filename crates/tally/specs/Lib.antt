pub mod Within
pub mod Counted
pub mod Laid
pub mod Begun
