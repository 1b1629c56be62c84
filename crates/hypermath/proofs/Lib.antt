pub mod Tests
pub mod Bits
pub mod Chains
pub mod Products
pub mod Filling
pub mod Crossings
pub mod Searches
pub mod Narrowing
