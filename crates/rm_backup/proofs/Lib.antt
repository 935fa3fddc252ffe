pub mod AtHand
pub mod Chained
pub mod Choices
pub mod Kept
pub mod Merges
