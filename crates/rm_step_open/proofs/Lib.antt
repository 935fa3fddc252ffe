pub mod Archiving
pub mod Disabling
pub mod Enabling
pub mod Places
pub mod Spaces
pub mod Turns
