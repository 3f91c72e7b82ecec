pub mod Shown
pub mod Prepared
