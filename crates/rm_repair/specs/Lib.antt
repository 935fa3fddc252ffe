pub mod Jobs
pub mod Mended
