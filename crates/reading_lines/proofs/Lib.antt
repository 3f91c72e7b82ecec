pub mod Patterns
pub mod Loops
pub mod Many
