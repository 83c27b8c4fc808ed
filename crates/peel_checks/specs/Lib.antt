pub mod Crowds
pub mod CrowdSourceLemmas
