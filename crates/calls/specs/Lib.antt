pub mod Table
pub mod Points
pub mod Parts
pub mod Fair
pub mod Buffers
pub mod Laws
