pub mod BitCounts
pub mod Counting
pub mod Equal
pub mod Ored
pub mod SetBits
pub mod Zeros
