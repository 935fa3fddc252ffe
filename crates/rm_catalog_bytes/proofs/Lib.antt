pub mod Wide
pub mod Bodies
pub mod Told
pub mod Endings
pub mod Pieces
pub mod SetTold
pub mod Records
