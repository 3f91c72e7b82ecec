pub mod Cells
pub mod Near
