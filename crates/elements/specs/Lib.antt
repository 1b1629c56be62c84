-- What the contracts of this crate cite beside the rules.
pub mod Marks
pub mod Below
pub mod Ranks
pub mod Levels
pub mod Touches
