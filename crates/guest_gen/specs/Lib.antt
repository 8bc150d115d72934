pub mod Code
pub mod File
