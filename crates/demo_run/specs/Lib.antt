pub mod Texts
pub mod Demonstration
pub mod Starts
pub mod Laws
