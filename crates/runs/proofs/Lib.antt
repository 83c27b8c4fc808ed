pub mod Blocks
pub mod Sound
pub mod Reports
pub mod Courses
pub mod Runs
