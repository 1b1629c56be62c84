pub mod Vertices
pub mod EndsGathered
pub mod Edges
