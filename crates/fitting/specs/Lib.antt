pub mod Firsts
pub mod Addresses
pub mod Entries
pub mod Credits
pub mod Adds
pub mod SpaceSaving
pub mod Shares
pub mod Laws
