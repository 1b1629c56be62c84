-- What the contracts of this crate cite beside the rules, and what is promised of a turn.
pub mod Written
pub mod Ready
pub mod Promises
