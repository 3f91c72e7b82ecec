pub mod Sorted
pub mod Cases
pub mod Reached
pub mod Before
pub mod Stops
