pub mod Edges
pub mod Chains
pub mod Holding
pub mod Walk
