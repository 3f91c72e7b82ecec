pub mod Chains
pub mod Held
pub mod Chain
