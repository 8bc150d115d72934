mod Lookup
mod Tested
pub mod Compared
