pub mod Agreement
pub mod Merged
pub mod Places
pub mod Reaching
