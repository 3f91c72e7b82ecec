pub mod Booked
pub mod Points
pub mod Finite
pub mod Stakes
