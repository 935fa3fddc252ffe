pub mod Fit
pub mod Hand
pub mod Handing
pub mod Skipped
pub mod Walked
pub mod Ways
