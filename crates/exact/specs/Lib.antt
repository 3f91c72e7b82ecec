pub mod Exact
pub mod Angle
pub mod Inner
pub mod InnerCells
pub mod InnerRows
pub mod InnerNear
