pub mod Commands
pub mod Readings
