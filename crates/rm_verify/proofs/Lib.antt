pub mod Among
pub mod Checked
pub mod Expired
pub mod Growing
pub mod Skipping
