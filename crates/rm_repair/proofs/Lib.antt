pub mod Beside
pub mod Least
pub mod Mends
pub mod Rows
pub mod Told
