mod Common
pub mod Lists
pub mod Steps
pub mod Rows
pub mod Touching
pub mod Recorded
pub mod Alike
pub mod Whole
mod Worked
