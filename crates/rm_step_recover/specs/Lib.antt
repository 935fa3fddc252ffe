pub mod Gap
pub mod Lines
pub mod Placing
