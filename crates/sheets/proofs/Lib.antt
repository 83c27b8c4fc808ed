pub mod Lays
pub mod Stocks
