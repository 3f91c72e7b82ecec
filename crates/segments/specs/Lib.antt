pub mod Colinear
pub mod Meet
pub mod Code
pub mod Scans
