pub mod Flat
pub mod Appended
