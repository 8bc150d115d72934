pub mod Common
pub mod States
pub mod Words
pub mod Fills
pub mod Calls
pub mod Laws
pub mod Examples
