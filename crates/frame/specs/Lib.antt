pub mod Plans
pub mod Rolls
pub mod Marking
pub mod Marked
pub mod Windows
pub mod Layouts
