pub mod Cuts
pub mod Lexemes
pub mod Tokens
pub mod Statements
pub mod Spelling
pub mod Splitter
