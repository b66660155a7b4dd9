pub mod Answering
pub mod Calling
pub mod Dailies
pub mod Holdings
pub mod Listing
pub mod Tracking
