pub mod Lines
pub mod Volumes
pub mod Workings
