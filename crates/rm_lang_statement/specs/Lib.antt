pub mod Agreed
pub mod IsCommand
pub mod Named
pub mod Texts
