pub mod Asked
pub mod Done
pub mod Ended
pub mod Kept
pub mod Prepared
pub mod Refused
