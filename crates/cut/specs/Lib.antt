-- What the contracts of this crate cite beside the rules.
pub mod Known
pub mod Rounds
pub mod Higher
pub mod Whole
pub mod Lists
