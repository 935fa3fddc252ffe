pub mod Amended
pub mod Catalogued
pub mod Expired
pub mod Lines
