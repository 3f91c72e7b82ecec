pub mod Copy
pub mod Near
pub mod Outcomes
pub mod Loop
pub mod Meshes
