pub mod Ends
pub mod Runs
pub mod Coord
pub mod Lowest
pub mod Passed
pub mod Samples
pub mod Calls
