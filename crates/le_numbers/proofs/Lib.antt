pub mod Fields
pub mod Writes
