pub mod Asked
pub mod Duplicated
pub mod Ended
pub mod Refused
pub mod Resting
