pub mod Fanning
pub mod Facing
pub mod Solids
pub mod Printing
pub mod Tests
