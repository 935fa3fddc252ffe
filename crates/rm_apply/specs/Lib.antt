pub mod Applying
pub mod Faults
pub mod Files
pub mod Preview
pub mod Recover
pub mod Restore
pub mod Taking
pub mod Told
