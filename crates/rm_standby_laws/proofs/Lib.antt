pub mod Beginning
pub mod EachStatement
pub mod Ended
pub mod Growing
pub mod Lasting
pub mod Standing
pub mod Steps
