pub mod Places
pub mod Shared
pub mod Laws
pub mod Searches
pub mod Deductions
pub mod Counts
pub mod Shares
