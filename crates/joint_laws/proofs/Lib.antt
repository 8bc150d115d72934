mod Common
pub mod ByCount
pub mod Times
pub mod Filled
pub mod Moves
pub mod Follows
pub mod Steps
pub mod Rows
pub mod Words
pub mod Once
pub mod Memory
pub mod Said
pub mod Worked
pub mod Texts
