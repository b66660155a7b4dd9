pub mod Orders
pub mod Turns
pub mod Steps
pub mod Places
pub mod Kept
