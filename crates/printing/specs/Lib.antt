pub mod Page
pub mod Told
pub mod Written
