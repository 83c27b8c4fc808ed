pub mod Common
pub mod Community
