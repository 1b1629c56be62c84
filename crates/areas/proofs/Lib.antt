pub mod Loops
pub mod Parts
pub mod Replied
pub mod Sheets
pub mod Small
pub mod UnitLaws
pub mod Walked
