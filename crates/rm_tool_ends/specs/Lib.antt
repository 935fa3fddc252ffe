pub mod Causes
pub mod Ended
pub mod Writing
