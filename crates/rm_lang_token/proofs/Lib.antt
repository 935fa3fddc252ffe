pub mod Ascii
pub mod Cutting
pub mod Digits
pub mod Endings
pub mod OneSpelling
pub mod ReadBack
pub mod Reading
pub mod Spelled
