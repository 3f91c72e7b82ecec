-- Laws on plain values. The theorem said of what is read from the walk's lists is in Closing.
pub mod Answers
pub mod Closing
pub mod Heaps
pub mod Slots
pub mod Steps
pub mod Turns
