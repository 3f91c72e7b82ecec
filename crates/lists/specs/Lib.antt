pub mod Search
pub mod Gather
pub mod Sort
pub mod Regions
pub mod Runs
pub mod Same
pub mod Marks
