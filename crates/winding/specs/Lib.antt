pub mod Winding
