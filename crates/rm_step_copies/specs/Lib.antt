pub mod Fit
pub mod Skipped
