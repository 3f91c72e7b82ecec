pub mod Turns
pub mod Meant
pub mod Scene
pub mod OneLayer
