-- Laws on plain values. The theorem is in Closing.
pub mod Before
pub mod CellLaws
pub mod Cells
pub mod Chunks
pub mod Closing
pub mod Distinct
pub mod EdgeLaws
pub mod Ends
pub mod Kept
pub mod Leads
pub mod Once
pub mod Onward
pub mod Orders
pub mod Pairs
pub mod Remainders
pub mod Repeats
pub mod Rounds
pub mod Runs
pub mod Sums
pub mod Tables
pub mod Turning
pub mod Ways
mod Samples
