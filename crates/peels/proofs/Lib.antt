pub mod Lives
pub mod Renumber
pub mod Kernels
pub mod Backs
pub mod Marks
pub mod Pictures
