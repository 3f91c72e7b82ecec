pub mod Scene
pub mod Yielded
pub mod Keys
pub mod Stands
pub mod Indexed
pub mod Found
pub mod Whole
pub mod Returns
