-- numbers
mod Orders
pub mod Integers
mod Leading
-- floats
pub mod Fields
pub mod ExactUnits
-- signs and angles
mod SignLaws
mod Places
-- the far path
mod Cells
mod Carries
mod Terms
-- the near path
mod Nearby
mod Scaled
-- K8 and others by computation
pub mod Samples
