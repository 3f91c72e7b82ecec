pub mod Answers
pub mod Sizes
pub mod K1
pub mod Listed
