pub mod Objects
pub mod Stops
