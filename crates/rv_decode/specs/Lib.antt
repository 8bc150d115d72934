pub mod Table
pub mod Fields
pub mod Seen
pub mod Encode
