pub mod Peels
pub mod Draining
pub mod Descents
pub mod Queues
pub mod Tables
