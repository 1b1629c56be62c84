pub mod CubeRows
pub mod CubeEntries
pub mod CubeReplies
pub mod Written
