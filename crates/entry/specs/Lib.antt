pub mod Mesh
pub mod Named
pub mod Refused
pub mod ByMesh
pub mod Passed
