mod Common
pub mod Sizes
pub mod Words
pub mod Records
