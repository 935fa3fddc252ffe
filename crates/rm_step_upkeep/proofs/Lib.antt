pub mod Checked
pub mod Fits
pub mod Known
pub mod Listed
pub mod Read
pub mod Recorded
