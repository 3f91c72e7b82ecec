pub mod Answered
pub mod Printed
