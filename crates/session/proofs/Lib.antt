pub mod Puts
pub mod Records
pub mod Turns
pub mod Enough
pub mod Lines
pub mod Promises
