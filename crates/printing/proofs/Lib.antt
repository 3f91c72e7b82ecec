pub mod Pages
pub mod FromRight
pub mod Rests
pub mod Answers
