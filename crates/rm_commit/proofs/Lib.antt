mod Carrying
pub mod Fronts
pub mod Named
pub mod Standing
