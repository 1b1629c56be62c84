-- What the contracts of this crate cite beside the rules.
pub mod Chains
pub mod Closed
pub mod Found
pub mod Lent
pub mod Numbers
pub mod Ready
pub mod Restored
pub mod Shared
