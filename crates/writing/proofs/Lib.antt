pub mod Uppers
