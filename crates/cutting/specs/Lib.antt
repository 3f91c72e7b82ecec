pub mod Edges
pub mod Edition
pub mod Cell
pub mod Walk
pub mod Outcome
pub mod Areas
pub mod Lent
