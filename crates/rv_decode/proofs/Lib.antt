mod Common
pub mod Fields
pub mod Whole
pub mod Apart
pub mod Decoded
