pub mod Windings
pub mod Winds
mod Samples
