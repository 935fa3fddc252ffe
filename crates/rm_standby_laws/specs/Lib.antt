pub mod Lasting
pub mod Standing
