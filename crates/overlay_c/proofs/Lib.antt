pub mod Placed
pub mod Samples
