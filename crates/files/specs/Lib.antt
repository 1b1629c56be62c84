-- What the contracts of this crate cite beside the rules.
pub mod Runs
pub mod Passed
pub mod Laid
pub mod Saved
pub mod Entries
pub mod Putting
pub mod Judged
pub mod Kept
