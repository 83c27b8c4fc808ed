pub mod TwoPart
pub mod Sound
