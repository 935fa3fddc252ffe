pub mod Applied
pub mod Jobs
pub mod Made
pub mod Room
pub mod Runs
pub mod Sections
