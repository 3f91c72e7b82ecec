pub mod Scans
pub mod Ascent
pub mod Steps
pub mod Cases
