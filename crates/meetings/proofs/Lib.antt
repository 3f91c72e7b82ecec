pub mod Early
pub mod Reading
pub mod Settled
pub mod Adding
pub mod Near
pub mod Loops
pub mod Front
