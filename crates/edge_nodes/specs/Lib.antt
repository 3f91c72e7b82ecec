pub mod Links
pub mod Lent
pub mod Chained
pub mod Chain
pub mod Stored
pub mod Sides
