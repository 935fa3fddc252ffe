pub mod Spelling
pub mod Fits
