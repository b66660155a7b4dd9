pub mod Ledgers
pub mod Guarantees
pub mod States
pub mod Meters
pub mod Holding
pub mod Days
pub mod Sequences
pub mod Tables
