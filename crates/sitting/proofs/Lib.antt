pub mod Answering
pub mod Driving
pub mod Lengths
pub mod Pasting
pub mod Promising
pub mod Tallying
pub mod Turning
