pub mod History
pub mod Parts
pub mod Passes
pub mod Ruled
pub mod Touched
