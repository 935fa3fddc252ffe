pub mod Back
pub mod Blocks
pub mod Changes
mod Gathered
mod Made
mod Recovery
pub mod Restored
pub mod Source
pub mod Valid
pub mod Whole
