pub mod Kinds
pub mod Failures
