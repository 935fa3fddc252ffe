pub mod Classes
pub mod Crosscheck
pub mod Told
