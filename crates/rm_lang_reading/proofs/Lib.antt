pub mod InOrder
pub mod Inside
pub mod Language
pub mod Parts
pub mod Worded
