pub mod Inserting
pub mod Gathering
pub mod Fitting
pub mod Steps
pub mod IntersectionAdded
pub mod SideAdded
pub mod Answering
pub mod OwnRows
