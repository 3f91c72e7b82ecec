pub mod Room
pub mod Runs
pub mod Inside
pub mod Kept
pub mod Placing
pub mod Piece
pub mod Loops
pub mod Listing
