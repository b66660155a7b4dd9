pub mod Lines
pub mod Courses
pub mod Turns
pub mod Tapes
pub mod Markings
pub mod Sittings
