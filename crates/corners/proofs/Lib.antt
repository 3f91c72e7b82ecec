pub mod Corners
pub mod Remainders
pub mod Steps
pub mod Tables
pub mod Cases
