mod Common
pub mod Leading
pub mod Showing
pub mod Copying
pub mod Trailing
