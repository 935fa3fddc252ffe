pub mod Dates
pub mod Hand
pub mod Needed
pub mod Obsolete
