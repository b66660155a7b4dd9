pub mod Ahead
pub mod Weights
