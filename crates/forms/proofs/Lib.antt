pub mod Same
pub mod Rising
pub mod Edges
pub mod Forms
