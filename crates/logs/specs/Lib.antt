pub mod Texts
pub mod Laws
pub mod Headings
pub mod Lines
pub mod Failures
pub mod Logs
pub mod Wordings
