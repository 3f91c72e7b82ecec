pub mod Text
pub mod Given
pub mod Read
pub mod Inputs
