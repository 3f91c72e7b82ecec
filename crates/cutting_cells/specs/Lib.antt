pub mod Yields
pub mod Treated
