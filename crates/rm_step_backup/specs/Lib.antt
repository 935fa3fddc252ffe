pub mod Begins
pub mod Copying
pub mod Increments
pub mod Logs
pub mod Making
pub mod Recorded
pub mod Running
