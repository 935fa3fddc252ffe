pub mod Archived
pub mod Backed
pub mod Begins
pub mod Copying
mod FilesRead
pub mod Forms
pub mod Increments
pub mod LogBackups
mod NextMade
mod Objects
pub mod Ran
pub mod Room
mod SetMembers
pub mod Taken
pub mod Takes
mod UnderWay
