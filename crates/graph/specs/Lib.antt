pub mod Graph
pub mod Cliques
pub mod Colourings
pub mod Degeneracy
pub mod Edges
pub mod Hiding
pub mod Refusals
pub mod Neighbours
