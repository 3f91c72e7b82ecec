pub mod Distinct
pub mod Numbers
pub mod Order
pub mod Residual
