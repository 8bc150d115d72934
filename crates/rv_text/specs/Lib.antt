pub mod Names
pub mod Instructions
pub mod Rows
pub mod Marks
pub mod Texts
pub mod Lines
