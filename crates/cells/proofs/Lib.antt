pub mod Own
pub mod Near
pub mod Cut
pub mod Scene
pub mod Over
