pub mod Whole
pub mod Kept
pub mod Waits
