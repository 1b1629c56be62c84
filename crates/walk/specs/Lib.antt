-- What the contracts of this crate cite beside the rules.
pub mod Boundaries
pub mod Facets
pub mod Walks
