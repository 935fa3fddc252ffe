pub mod Begun
pub mod Gathering
pub mod Handing
pub mod Ids
pub mod Mends
pub mod Named
pub mod Ran
