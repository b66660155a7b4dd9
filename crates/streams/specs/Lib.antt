pub mod Draws
pub mod Runs
pub mod Streams
pub mod Words
