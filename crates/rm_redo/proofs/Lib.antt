pub mod Changes
pub mod FurtherLogs
pub mod Loaded
pub mod LogBodies
pub mod LogFitting
pub mod Logs
