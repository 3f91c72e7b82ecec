pub mod Corners
pub mod Ring
