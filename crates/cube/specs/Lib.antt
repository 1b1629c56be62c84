pub mod Cubes
pub mod Writing
