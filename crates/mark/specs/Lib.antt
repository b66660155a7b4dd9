pub mod Kinds
pub mod Worked
