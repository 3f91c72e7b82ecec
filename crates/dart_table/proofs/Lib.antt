-- Laws on plain values. What a loop over edges joins is in Joins.
pub mod Slots
pub mod Adds
pub mod Joins
