pub mod Phrases
pub mod Spelling
