pub mod ComesOut
pub mod Faults
pub mod Opens
pub mod Saved
pub mod Shown
pub mod Untouched
