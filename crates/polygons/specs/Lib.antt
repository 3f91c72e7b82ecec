pub mod Interior
pub mod Code
pub mod Scans
