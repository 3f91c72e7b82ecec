pub mod Distances
pub mod Multiples
pub mod GridNumbers
pub mod Lifted
pub mod Ways
pub mod OnGrid
pub mod Samples
