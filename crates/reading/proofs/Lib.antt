pub mod Walks
pub mod Opens
