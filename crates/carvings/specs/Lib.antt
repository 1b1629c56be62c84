-- What it is that two tables differ by a renumbering, and what is promised of a slice and two carvings.
pub mod Renumbered
pub mod Promises
