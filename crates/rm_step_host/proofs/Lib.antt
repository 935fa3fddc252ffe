pub mod Corrupted
pub mod Handing
pub mod Mishaps
