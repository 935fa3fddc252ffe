pub mod Dates
pub mod Dumped
pub mod IncarnationLines
pub mod Listed
pub mod Telling
pub mod Validated
