-- What the contracts of this crate cite beside the rules, and what is promised of areas.
pub mod Promises
pub mod Words
