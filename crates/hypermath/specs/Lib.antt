-- What the contracts of this crate cite beside the rules of floats.
pub mod Axes
pub mod Answers
pub mod Narrow
