pub mod AreaWords
pub mod CutWords
pub mod CutListWords
pub mod ListWords
pub mod RankWords
pub mod FileWords
pub mod TouchWords
pub mod PrintWords
