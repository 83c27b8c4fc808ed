pub mod Answers
pub mod Cuts
pub mod Climbed
