pub mod Level1s
pub mod Looking
pub mod Parents
pub mod Records
pub mod Renewed
pub mod Taken
